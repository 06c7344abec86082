-- Opposite directions by parity: the opposite of an odd one is the next, of an even one the one before. Assumes nothing.
use mathlib.Core.Path.{◌≡◌, refl, sym, ◌∙◌}
use mathlib.Core.Logic.{⊎_elim}
use mathlib.Core.Bool.{Bool, true, false, ◌||◌}
use Prim.Native.Nat.{ℕ, ◌+◌, ◌-◌, ◌%◌}
use native.Mathlib.Omega.{arith}
use lib.IntN.{◌-ℤ◌}
use lib.Dec.{eqb}
use borrow.Author.Tests.{eq-eqb, ne_eqb, eqb-true}
use Rattle.whole.specs.laws.Bools.{or_cases}
use Rattle.whole.specs.Fold.{all, open-fold, Dir}
use Rattle.whole.specs.laws.Search.{all-at}
use Rattle.lattice.specs.Lattice.{d3q19, open-lattice}

opposite-right : ℕ → Bool
opposite-right i = eqb i 0 || eqb (d3q19.opp i) (elim (eqb (i % 2) 1) [ true ↦ i + 1 | false ↦ i - 1 ])

opposites-right : all 19 opposite-right ≡ true
unfolding open-fold open-lattice opposite-right
opposites-right = refl

opposite-at : (i : ℕ) → Dir 18 i → eqb (d3q19.opp i) (elim (eqb (i % 2) 1) [ true ↦ i + 1 | false ↦ i - 1 ]) ≡ true
unfolding opposite-right
opposite-at i d =
    ⊎_elim (λ e. absurd (omega (arith, eqb-true i 0 e, d.some))) (λ e. e) (or_cases (eqb i 0) _ (all-at 19 opposite-right opposites-right i (omega (arith, d.most))))

pub opposite-odd : (i : ℕ) → Dir 18 i → i % 2 ≡ 1 → i + 1 ≡ d3q19.opp i
opposite-odd i d h = let e : eqb (i % 2) 1 ≡ true = eq-eqb (i % 2) 1 h in sym (eqb-true (d3q19.opp i) (i + 1) (rw e at (opposite-at i d)))

pub opposite-even : (i : ℕ) → Dir 18 i → (i % 2 ≡ 1 → ⊥) → i - 1 ≡ d3q19.opp i
opposite-even i d h = let e : eqb (i % 2) 1 ≡ false = ne_eqb (i % 2) 1 h in sym (eqb-true (d3q19.opp i) (i - 1) (rw e at (opposite-at i d)))
