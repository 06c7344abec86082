-- Stages 1 to 4 of a reflected scene at a cell of the inner layers: what streams, what is traded, density, momentum, test 7 and collision are those of the
-- reflected cell and direction. Over any lattice and grid with a reflection; nothing is asked of the relaxation before the collision. Assumes nothing.
use mathlib.Core.Path.{◌≡◌, refl, sym, ap, ap₂, ◌∙◌}
use mathlib.Core.Bool.{Bool, true, false, not, ◌&&◌, cond}
use Prim.Native.Nat.{ℕ, zero, suc, ◌+◌, ◌≤◌, ◌<◌}
use native.Mathlib.Nat.{lt_irrefl}
use lib.IntN.{ℤ, pos, ◌+ℤ◌, ◌-ℤ◌}
use lib.Dec.{eqb}
use Rattle.lattice.specs.Body.{collided_part, relaxed_dir}
use Rattle.whole.specs.Fold.{Dir}
use Rattle.whole.specs.laws.Search.{as-dir}
use Rattle.lattice.specs.Lattice.{V3, dot, Lattice, momentum}
use Rattle.lattice.specs.Cell.{is_positive, dense, slow, gas_pair, exchange, pull, quad, relaxed}
use Rattle.lattice.proofs.Paired.{Paired}
use Rattle.grid.specs.Grid.{Grid}
use Rattle.grid.specs.State.{State, Scene, by_flag, liquid}
use Rattle.grid.specs.Step.{old_density, old_momentum, leans_to, rebuilds, rebuilt_part, arrives, streamed, difference, traded, traded_mass, streamed_density, streamed_momentum, unsteady, collided_dir, collided}
use Rattle.grid.specs.Demands.{scene}
use Rattle.grid.proofs.Laid.{Laid}
use Rattle.mirror.specs.Mirror.{turn, reflect, Mirror, Reflection, Reflects}
use Rattle.mirror.proofs.Together.{ap₃, ap₄, ap₅, ap₆}
use Rattle.mirror.proofs.Turned.{turn-add, turn-pull}
use Rattle.mirror.proofs.Near.{near-flag, near-fill, near-part, normal-along}
use Rattle.mirror.proofs.Permuted.{dirs-alike, along, speed, density-alike, momentum-alike}

-- a direction is no rest
pub streamed-dir : (S : Scene) (c i : ℕ) → Dir S.lat.q i → streamed S c i ≡ arrives S c (S.lat.opp i) i
unfolding streamed
streamed-dir S c zero d = absurd (lt_irrefl zero d.some)
streamed-dir S c (suc a) d = refl

pub collided-as : (S : Scene) (c i : ℕ) → Dir S.lat.q i → collided S c i ≡ collided_dir S c i
unfolding collided collided_part
collided-as S c zero d = absurd (lt_irrefl zero d.some)
collided-as S c (suc a) d = refl

-- the state t is s reflected
module _ (L : Lattice) (G : Grid) (M : Mirror) (paired : Paired L) (laid : Laid L G) (m : Reflection L G M)
    (s t : State) (same : Reflects M L.q G.cells s t) (g : V3) (p p' : ℕ → ℤ) where
  abbrev pub S : Scene
  S = scene L G s g p

  abbrev pub R : Scene
  R = scene L G t (reflect M.axes g) p'

  abbrev q : ℕ
  q = L.q

  abbrev μ : ℕ → ℕ
  μ c = M.cell c

  abbrev π : ℕ → ℕ
  π k = M.dir k

  dir-low : {i : ℕ} → Dir q i → i ≤ q
  dir-low d = d.most

  -- ---- 1, of any cell
  pub old-density : (c : ℕ) → c < G.cells → old_density R c ≡ old_density S (μ c)
  unfolding old_density
  old-density c h = density-alike L M.axes M.dir m.turns (t.part c) (s.part (μ c)) (λ k l. same.parts c k h l)

  pub old-momentum : (c : ℕ) → c < G.cells → old_momentum R c ≡ reflect M.axes (old_momentum S (μ c))
  unfolding old_momentum
  old-momentum c h = momentum-alike L M.axes M.dir m.turns (t.part c) (s.part (μ c)) (λ k l. same.parts c k h l)

  -- ---- of a cell whose neighbours are cells
  module _ (c : ℕ) (h : c < G.cells) (o : G.outer c ≡ false) where
    -- where a part is rebuilt: n·e is the same
    pub rebuilds-alike : (i : ℕ) → Dir q i → rebuilds R c i ≡ rebuilds S (μ c) (π i)
    unfolding rebuilds leans_to
    rebuilds-alike i d =
        ap₃ (λ (f k : ℕ) (x : ℤ). by_flag k true (eqb f 1 && is_positive x) (eqb f 1 && is_positive x) false) (same.flags c h)
        (near-flag L G M laid m s t same c h o i d) (normal-along L G M laid m s t same c h o g (reflect M.axes g) p p' i d)

    pub rebuilt-alike : (i : ℕ) → Dir q i → rebuilt_part R c i ≡ rebuilt_part S (μ c) (π i)
    unfolding rebuilt_part
    rebuilt-alike i d =
        ap₅ (λ (w : ℕ) (r x y f : ℤ). gas_pair w r x y -ℤ f) (sym (m.turns.weight i d)) (old-density c h)
        (along L M.axes M.dir m.turns i d (old_momentum R c) (old_momentum S (μ c)) (old-momentum c h))
        (speed L M.axes M.dir m.turns (old_momentum R c) (old_momentum S (μ c)) (old-momentum c h))
        (same.parts c i h d.most)

    pub arrives-alike : (i k : ℕ) → Dir q i → k ≤ q → arrives R c i k ≡ arrives S (μ c) (π i) (π k)
    unfolding arrives
    arrives-alike i k d l =
        ap₅ (λ (b : Bool) (r : ℤ) (f : ℕ) (x y : ℤ). cond b r (by_flag f (pos 0) x x y))
        (rebuilds-alike i d) (rebuilt-alike i d) (near-flag L G M laid m s t same c h o i d) (near-part L G M laid m s t same c h o i k d l) (same.parts c i h d.most)

    pub streamed-alike : (k : ℕ) → k ≤ q → streamed R c k ≡ streamed S (μ c) (π k)
    unfolding streamed
    streamed-alike zero l = same.parts c 0 h l ∙ ap (s.part (μ c)) m.turns.rest ∙ ap (streamed S (μ c)) (sym m.turns.rest)
    streamed-alike (suc a) l =
        arrives-alike (L.opp (suc a)) (suc a) (paired.dir (suc a) (as-dir l)) l
        ∙ ap (λ (i : ℕ). arrives S (μ c) i (π (suc a))) (sym (m.turns.opp (suc a) (as-dir l)))
        ∙ sym (streamed-dir S (μ c) (π (suc a)) (m.turns.dir (suc a) (as-dir l)))

    -- ---- 2
    pub difference-alike : (i : ℕ) → Dir q i → difference R c i ≡ difference S (μ c) (π i)
    unfolding difference
    difference-alike i d =
        ap₂ (λ (x y : ℤ). x -ℤ y)
        (near-part L G M laid m s t same c h o i (L.opp i) d (dir-low (paired.dir i d)) ∙ ap (s.part (G.near (μ c) (π i))) (sym (m.turns.opp i d)))
        (same.parts c i h d.most)

    pub traded-alike : (i : ℕ) → Dir q i → traded R c i ≡ traded S (μ c) (π i)
    unfolding traded
    traded-alike i d =
        ap₄ (λ (f x y : ℕ) (d : ℤ). by_flag f (pos 0) (exchange (x + y) d) d (pos 0)) (near-flag L G M laid m s t same c h o i d) (same.fills c h) (near-fill L G M laid m s t same c h o i d) (difference-alike i d)

    pub mass-alike : traded_mass R c ≡ traded_mass S (μ c)
    unfolding traded_mass
    mass-alike =
        ap₂ (λ (x y : ℤ). x +ℤ y) (same.masses c h) (dirs-alike L M.axes M.dir m.turns (traded R c) (traded S (μ c)) traded-alike)

    -- ---- 3
    pub density-new : streamed_density R c ≡ streamed_density S (μ c)
    unfolding streamed_density
    density-new = density-alike L M.axes M.dir m.turns (streamed R c) (streamed S (μ c)) streamed-alike

    moved : momentum L (streamed R c) ≡ reflect M.axes (momentum L (streamed S (μ c)))
    moved = momentum-alike L M.axes M.dir m.turns (streamed R c) (streamed S (μ c)) streamed-alike

    pulled : (b : Bool) (a j ρ ρ' g : ℤ) → a ≡ turn b j → ρ ≡ ρ' → a +ℤ pull ρ (turn b g) ≡ turn b (j +ℤ pull ρ' g)
    pulled b a j ρ ρ' g e r = ap₂ (λ (x y : ℤ). x +ℤ y) e (ap (λ (x : ℤ). pull x (turn b g)) r ∙ turn-pull b ρ' g) ∙ turn-add b j (pull ρ' g)

    pub momentum-new : streamed_momentum R c ≡ reflect M.axes (streamed_momentum S (μ c))
    unfolding streamed_momentum reflect
    momentum-new j = record {
      x = pulled M.axes.x _ (momentum L (streamed S (μ c))).x _ _ g.x (ap (λ (v : V3). v.x) moved) density-new j;
      y = pulled M.axes.y _ (momentum L (streamed S (μ c))).y _ _ g.y (ap (λ (v : V3). v.y) moved) density-new j;
      z = pulled M.axes.z _ (momentum L (streamed S (μ c))).z _ _ g.z (ap (λ (v : V3). v.z) moved) density-new j;
    }

    pub speed-new : dot (streamed_momentum R c) (streamed_momentum R c) ≡ dot (streamed_momentum S (μ c)) (streamed_momentum S (μ c))
    speed-new = speed L M.axes M.dir m.turns (streamed_momentum R c) (streamed_momentum S (μ c)) momentum-new

    pub fast-alike : unsteady R c ≡ unsteady S (μ c)
    unfolding unsteady
    fast-alike =
        ap₃ (λ (f : ℕ) (ρ jj : ℤ). liquid f && not (dense ρ && slow ρ jj)) (same.flags c h) density-new speed-new

    -- ---- 4, where the cell's own relaxation is that of the reflected cell (P10: shown from the lemmas above)
    module _ (own : p' c ≡ p (μ c)) where
      pub collided-dir : (i : ℕ) → Dir q i → collided_dir R c i ≡ collided_dir S (μ c) (π i)
      unfolding relaxed_dir
      collided-dir i d =
          ap₆ (λ (r : ℤ) (w : ℕ) (d x y f : ℤ). relaxed r w (quad d x y) d f) own (sym (m.turns.weight i d)) density-new
          (along L M.axes M.dir m.turns i d (streamed_momentum R c) (streamed_momentum S (μ c)) momentum-new) speed-new (streamed-alike i d.most)

      pub collided-alike : (k : ℕ) → k ≤ q → collided R c k ≡ collided S (μ c) (π k)
      unfolding collided collided_part
      collided-alike zero l =
          ap₂ (λ (x y : ℤ). x -ℤ y) density-new (dirs-alike L M.axes M.dir m.turns (collided_dir R c) (collided_dir S (μ c)) collided-dir)
          ∙ ap (collided S (μ c)) (sym m.turns.rest)
      collided-alike (suc a) l = collided-dir (suc a) (as-dir l) ∙ sym (collided-as S (μ c) (π (suc a)) (m.turns.dir (suc a) (as-dir l)))
