-- Stage 5's new interface cells: the flow of a liquid neighbour after stage 3, and the means over neighbours. Assumes nothing.
use mathlib.Core.Path.{◌≡◌, sym, ap, ap₂, ◌∙◌}
use mathlib.Core.Bool.{true, false, cond, false≢true}
use mathlib.Core.List.{List, []}
use Prim.Native.Nat.{ℕ, zero, suc, ◌+◌, ◌-◌, ◌<◌}
use native.Mathlib.Omega.{arith}
use lib.IntN.{ℤ, pos, ◌+ℤ◌, +ℤ_idr}
use lib.ListN.{length, get_or}
use Rattle.whole.specs.laws.Bools.{cond_yes, cond_no}
use Rattle.whole.specs.Fold.{tab}
use Rattle.whole.specs.laws.Tab.{tab-cong}
use Rattle.lattice.specs.Lattice.{V3, d3q19, density, momentum}
use Rattle.lattice.specs.inner.Held.{parts_of, Bounded, vec}
use Rattle.lattice.specs.Body.{equilibrium_dir, equilibrium_part, body_good}
use Rattle.lattice.specs.declared.Flow.{Flow}
use Rattle.lattice.specs.declared.Settings.{Settings}
use Rattle.grid.specs.State.{liquid}
use Rattle.grid.specs.Step.{streamed, streamed_density, streamed_momentum, born}
use Rattle.grid.specs.inner.Sight.{weighing, Bodies, Around, sight}
use Rattle.grid.proofs.Same.{body_same}
use Rattle.arrivals.proofs.Spans.{Light, streamed-in}
use Rattle.conversion.specs.inner.Born.{NewFlow, Joined, Added, Begins}
use Rattle.conversion.specs.declared.birth.Sum.{Sum}
use Rattle.grid.proofs.Arrays.{part-is, density-is, momentum-is, bounded-is}

-- a liquid cell is no wall
pub wet-low : (f : ℕ) → liquid f ≡ true → f < 3
wet-low zero e = omega arith
wet-low (suc zero) e = omega arith
wet-low (suc (suc zero)) e = omega arith
wet-low (suc (suc (suc n))) e = absurd (false≢true e)

module _ (weights : ℕ → ℕ) (flags : List ℕ) (part : ℕ → ℕ → ℤ) (fills off : List ℕ) (low : ℕ) (g : Settings) (c : ℕ) where
  -- what streamed in
  module _ (l : List ℤ) (e : l ≡ tab 19 (streamed (sight weights flags part [] fills off low g) c)) where
    pub density-now : density d3q19 (parts_of l) ≡ streamed_density (sight weights flags part [] fills off low g) c
    unfolding streamed_density sight d3q19 density
    density-now = density-is l (streamed (sight weights flags part [] fills off low g) c) e

    pub momentum-now : momentum d3q19 (parts_of l) ≡ momentum d3q19 (streamed (sight weights flags part [] fills off low g) c)
    unfolding d3q19
    momentum-now = momentum-is l (streamed (sight weights flags part [] fills off low g) c) e

    pub bounded-now : Light weights → Bodies flags part → Around (length flags) off low c → liquid (get_or flags c 3) ≡ true → Bounded l 1073741824 33554432
    bounded-now light t a w =
        let i = streamed-in weights light flags part fills off low g t c a w in
        bounded-is l (streamed (sight weights flags part [] fills off low g) c) e (record { abs = omega (arith, (i 0 (omega arith)).abs) })
        (λ k z h. record { abs = omega (arith, (i k (omega arith)).abs) })

  -- ---- one neighbour more
  pub counted-in : {t r : Sum} {v : Flow} → liquid (get_or flags c 3) ≡ true → NewFlow (sight weights flags part [] fills off low g) c v → Joined t v r → Added (sight weights flags part [] fills off low g) t c r
  unfolding sight
  counted-in {t} w f j = record {
    n = j.n ∙ ap (λ (k : ℤ). t.n +ℤ k) (sym (cond_yes (pos 1) (pos 0) w));
    rho = j.rho ∙ ap (λ (k : ℤ). t.rho +ℤ k) (f.rho ∙ sym (cond_yes (streamed_density (sight weights flags part [] fills off low g) c) (pos 0) w));
    x = j.x ∙ ap (λ (k : ℤ). t.x +ℤ k) (f.x ∙ sym (cond_yes (streamed_momentum (sight weights flags part [] fills off low g) c).x (pos 0) w));
    y = j.y ∙ ap (λ (k : ℤ). t.y +ℤ k) (f.y ∙ sym (cond_yes (streamed_momentum (sight weights flags part [] fills off low g) c).y (pos 0) w));
    z = j.z ∙ ap (λ (k : ℤ). t.z +ℤ k) (f.z ∙ sym (cond_yes (streamed_momentum (sight weights flags part [] fills off low g) c).z (pos 0) w));
  }

  pub left_out : (t : Sum) → liquid (get_or flags c 3) ≡ false → Added (sight weights flags part [] fills off low g) t c t
  unfolding sight
  left_out t w = record {
    n = plus_none t.n (pos 1);
    rho = plus_none t.rho (streamed_density (sight weights flags part [] fills off low g) c);
    x = plus_none t.x (streamed_momentum (sight weights flags part [] fills off low g) c).x;
    y = plus_none t.y (streamed_momentum (sight weights flags part [] fills off low g) c).y;
    z = plus_none t.z (streamed_momentum (sight weights flags part [] fills off low g) c).z;
  }
    where
      plus_none : (a b : ℤ) → a ≡ a +ℤ cond (liquid (get_or flags c 3)) b (pos 0)
      plus_none a b = sym (+ℤ_idr a) ∙ ap (λ (k : ℤ). a +ℤ k) (sym (cond_no b (pos 0) w))

  -- ---- the parts of a new interface cell
  module _ {v : Flow} (b : Begins (sight weights flags part [] fills off low g) c v) where
    born-part : (k : ℕ) → equilibrium_part (weighing weights) v.rho (vec v) k ≡ born (sight weights flags part [] fills off low g) c k
    unfolding born equilibrium_part equilibrium_dir sight
    born-part zero = ap₂ (λ (ρ : ℤ) (j : V3). equilibrium_part (weighing weights) ρ j 0) b.rho b.momentum
    born-part (suc a) = ap₂ (λ (ρ : ℤ) (j : V3). equilibrium_part (weighing weights) ρ j (suc a)) b.rho b.momentum

    module _ (l : List ℤ) (e : l ≡ tab 19 (equilibrium_part (weighing weights) v.rho (vec v))) where
      pub born-list : l ≡ tab 19 (born (sight weights flags part [] fills off low g) c)
      born-list = e ∙ tab-cong 19 (equilibrium_part (weighing weights) v.rho (vec v)) (born (sight weights flags part [] fills off low g) c) (pos 0) (λ k h. born-part k)

      pub born-fair : body_good d3q19 (parts_of l) ≡ body_good d3q19 (born (sight weights flags part [] fills off low g) c)
      unfolding body_good d3q19
      born-fair = body_same d3q19 (parts_of l) (born (sight weights flags part [] fills off low g) c) (λ k h. part-is l (born (sight weights flags part [] fills off low g) c) born-list k (omega arith))
