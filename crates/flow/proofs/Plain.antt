-- A cell's stages turn on nothing but flags, parts, fills and masses, and on where it and its neighbours lie: two scenes that agree in these agree in what
-- they make of the cell. So what a function of one cell promises of its sight is what the step's scene has. Assumes nothing.
use mathlib.Core.Path.{◌≡◌, refl, ap, ap₂}
use mathlib.Core.Bool.{Bool, true, false, ◌&&◌, not, cond}
use Prim.Native.Nat.{ℕ, zero, suc, ◌+◌, ◌≤◌}
use native.Mathlib.Omega.{arith}
use lib.Dec.{eqb}
use lib.IntN.{ℤ, pos, ◌+ℤ◌, ◌-ℤ◌}
use Rattle.lattice.specs.Body.{collided_part, relaxed_dir}
use Rattle.whole.specs.Fold.{Dir}
use Rattle.whole.specs.laws.Search.{as-dir}
use Rattle.whole.specs.laws.Sums.{sum-cong}
use Rattle.lattice.specs.Lattice.{V3, dot, Lattice, d3q19, density, momentum}
use Rattle.lattice.specs.Cell.{dense, slow, gas_pair, exchange, is_positive, pull, quad, relaxed}
use Rattle.turbulence.proofs.Laws.{own-cong}
use Rattle.grid.specs.Grid.{Grid}
use Rattle.grid.specs.State.{Scene, by_flag, liquid}
use Rattle.grid.specs.Step.{seen, normal, old_density, old_momentum, leans_to, rebuilds, rebuilt_part, arrives, streamed, difference, traded, traded_mass, streamed_density, streamed_momentum, unsteady, collided_dir, collided}
use Rattle.grid.specs.Mode.{own_at, relax_in, before}
use Rattle.grid.specs.inner.Sight.{weighing}
use Rattle.grid.proofs.Same.{density-same, momentum-same}

-- the directions of the axes, or rest where there is no axis
pub record Axial (L : Lattice) : Type 0 where
  pub xp : L.xp ≤ L.q
  pub xm : L.xm ≤ L.q
  pub yp : L.yp ≤ L.q
  pub ym : L.ym ≤ L.q
  pub zp : L.zp ≤ L.q
  pub zm : L.zm ≤ L.q

pub axial19 : {weights : ℕ → ℕ} → Axial (weighing weights)
unfolding d3q19
axial19 = record { xp = omega arith; xm = omega arith; yp = omega arith; ym = omega arith; zp = omega arith; zm = omega arith }

-- two scenes with the same lattice, flags and parts
abbrev with-flow : Lattice → Grid → (ℕ → ℕ) → (ℕ → ℕ → ℤ) → (ℕ → ℤ) → (ℕ → ℕ) → ℤ → V3 → (ℕ → ℤ) → Scene
with-flow L G flag part mass fill carry g p =
    record { lat = L; grid = G; old = record { flag = flag; part = part; mass = mass; fill = fill; carry = carry }; g = g; relax = p }

module _ (L : Lattice) (turned : (i : ℕ) → Dir L.q i → Dir L.q (L.opp i)) (axes : Axial L) (G H : Grid) (flag : ℕ → ℕ) (part : ℕ → ℕ → ℤ) (fill : ℕ → ℕ) (c : ℕ)
    (near : (i : ℕ) → i ≤ L.q → G.near c i ≡ H.near c i) where
  -- stage 1 turns on flags, parts and fills alone
  module _ (mass mass' : ℕ → ℤ) (carry carry' : ℤ) (g g' : V3) (p p' : ℕ → ℤ) where
    abbrev S : Scene
    S = with-flow L G flag part mass fill carry g p

    abbrev S' : Scene
    S' = with-flow L H flag part mass' fill carry' g' p'

    seen_same : (i : ℕ) → i ≤ L.q → seen S c (G.near c i) ≡ seen S' c (H.near c i)
    unfolding seen
    seen_same i h = ap (λ (n : ℕ). by_flag (flag n) (pos (fill n)) (pos (fill n)) (pos (fill n)) (pos (fill c))) (near i h)

    normal-same : normal S c ≡ normal S' c
    unfolding normal
    normal-same i = record {
      x = seen_same L.xm axes.xm i -ℤ seen_same L.xp axes.xp i;
      y = seen_same L.ym axes.ym i -ℤ seen_same L.yp axes.yp i;
      z = seen_same L.zm axes.zm i -ℤ seen_same L.zp axes.zp i;
    }

    arrives-same : (i k : ℕ) → Dir L.q i → arrives S c i k ≡ arrives S' c i k
    unfolding arrives leans_to rebuilds rebuilt_part old_density old_momentum
    arrives-same i k d =
        ap₂ (λ (n : ℕ) (v : V3). cond (by_flag (flag n) true (eqb (flag c) 1 && is_positive (dot v (L.e i))) (eqb (flag c) 1 && is_positive (dot v (L.e i))) false)
        (gas_pair (L.weight i) (density L (part c)) (dot (L.e i) (momentum L (part c))) (dot (momentum L (part c)) (momentum L (part c))) -ℤ part c i)
        (by_flag (flag n) (pos 0) (part n k) (part n k) (part c i)))
        (near i d.most) normal-same

    pub streamed-same : (k : ℕ) → k ≤ L.q → streamed S c k ≡ streamed S' c k
    unfolding streamed
    streamed-same zero h = refl
    streamed-same (suc a) h = arrives-same (L.opp (suc a)) (suc a) (turned (suc a) (as-dir h))

    pub streamed-density-same : streamed_density S c ≡ streamed_density S' c
    unfolding streamed_density
    streamed-density-same = density-same L (streamed S c) (streamed S' c) streamed-same

  -- stages 3 and 4 turn on gravity and the cell's relaxation too
  module _ (mass mass' : ℕ → ℤ) (carry carry' : ℤ) (g : V3) (p p' : ℕ → ℤ) where
    abbrev M : Scene
    M = with-flow L G flag part mass fill carry g p

    abbrev M' : Scene
    M' = with-flow L H flag part mass' fill carry' g p'

    density-is : streamed_density M c ≡ streamed_density M' c
    density-is = streamed-density-same mass mass' carry carry' g g p p'

    streamed-is : (k : ℕ) → k ≤ L.q → streamed M c k ≡ streamed M' c k
    streamed-is = streamed-same mass mass' carry carry' g g p p'

    pub streamed-momentum-same : streamed_momentum M c ≡ streamed_momentum M' c
    unfolding streamed_momentum
    streamed-momentum-same i =
        let j = momentum-same L (streamed M c) (streamed M' c) streamed-is in
        record {
          x = (j i).x +ℤ pull (density-is i) g.x;
          y = (j i).y +ℤ pull (density-is i) g.y;
          z = (j i).z +ℤ pull (density-is i) g.z;
        }

    pub unsteady-same : unsteady M c ≡ unsteady M' c
    unfolding unsteady
    unsteady-same = ap₂ (λ (ρ : ℤ) (j : V3). liquid (flag c) && not (dense ρ && slow ρ (dot j j))) density-is streamed-momentum-same

    pub own_same : (q : ℤ) → own_at M q c ≡ own_at M' q c
    unfolding own_at
    own_same q =
        own-cong L (streamed_density M c) (streamed_density M' c) (streamed_momentum M c) (streamed_momentum M' c) q (streamed M c) (streamed M' c) density-is streamed-momentum-same streamed-is

    module _ (alike : p c ≡ p' c) where
      collided-dir-same : (i : ℕ) → i ≤ L.q → collided_dir M c i ≡ collided_dir M' c i
      unfolding relaxed_dir
      collided-dir-same i h t =
          relaxed (alike t) (L.weight i) (quad (density-is t) (dot (L.e i) (streamed-momentum-same t)) (dot (streamed-momentum-same t) (streamed-momentum-same t))) (density-is t) (streamed-is i h t)

      pub collided-same : (k : ℕ) → k ≤ L.q → collided M c k ≡ collided M' c k
      unfolding collided collided_part
      collided-same zero h =
          ap₂ (λ (x y : ℤ). x -ℤ y) density-is (sum-cong L.q (λ a. collided_dir M c (suc a)) (λ a. collided_dir M' c (suc a)) (λ a k. collided-dir-same (suc a) k))
      collided-same (suc a) h = collided-dir-same (suc a) h

  -- in either mode the cell's relaxation turns on no mass, no carry and no other relaxation
  pub relax-same : (mode : Bool) (g : V3) (q : ℤ) → relax_in mode (before L G flag part fill g) q c ≡ relax_in mode (before L H flag part fill g) q c
  relax-same false g q = refl
  relax-same true g q = own_same (λ d. pos 0) (λ d. pos 0) (pos 0) (pos 0) g (λ d. pos 0) (λ d. pos 0) q

  -- stage 2 turns on masses and fills
  module _ (mass : ℕ → ℤ) (carry carry' : ℤ) (g g' : V3) (p p' : ℕ → ℤ) where
    abbrev T : Scene
    T = with-flow L G flag part mass fill carry g p

    abbrev T' : Scene
    T' = with-flow L H flag part mass fill carry' g' p'

    traded-same : (i : ℕ) → Dir L.q i → traded T c i ≡ traded T' c i
    unfolding traded difference
    traded-same i d =
        ap (λ (n : ℕ). by_flag (flag n) (pos 0) (exchange (fill c + fill n) (part n (L.opp i) -ℤ part c i)) (part n (L.opp i) -ℤ part c i) (pos 0)) (near i d.most)

    pub traded-mass-same : traded_mass T c ≡ traded_mass T' c
    unfolding traded_mass
    traded-mass-same = ap (λ (z : ℤ). mass c +ℤ z) (sum-cong L.q (λ a. traded T c (suc a)) (λ a. traded T' c (suc a)) (λ a k. traded-same (suc a) (as-dir k)))
