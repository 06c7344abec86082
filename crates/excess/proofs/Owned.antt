-- A cell's own parts, read into an array: they are in range, and their density is the cell's. Assumes nothing.
use mathlib.Core.Path.{◌≡◌, sym, ap, ◌∙◌, subst}
use mathlib.Core.List.{List}
use Prim.Native.Nat.{ℕ, ◌<◌}
use native.Mathlib.Omega.{arith}
use lib.IntN.{ℤ, pos}
use lib.ListN.{get_or}
use Rattle.whole.specs.Fold.{tab}
use Rattle.whole.specs.laws.Machine.{Within}
use Rattle.whole.specs.laws.Tab.{get_or-tab}
use Rattle.lattice.specs.Lattice.{d3q19, density}
use Rattle.lattice.specs.inner.Held.{parts_of, Bounded}
use Rattle.grid.proofs.Same.{density-same}
use Rattle.excess.specs.inner.Gifts.{Parts, density_at}

module _ (part : ℕ → ℕ → ℤ) (c : ℕ) {v : List ℤ} (e : v ≡ tab 19 (part c)) where
  own_at : (k : ℕ) → k < 19 → get_or v k (pos 0) ≡ part c k
  own_at k h = ap (λ (l : List ℤ). get_or l k (pos 0)) e ∙ get_or-tab 19 (part c) (pos 0) k h

  pub own-bounded : {Room : ℕ → Type 0} → Parts Room part c → Bounded v 1073741824 33554432
  own-bounded p = record {
    rest = subst (λ (z : ℤ). Within z 1073741824) (sym (own_at 0 (omega arith))) p.rest;
    at = λ k h l. subst (λ (z : ℤ). Within z 33554432) (sym (own_at k l)) (p.at k h l);
  }

  pub own-density : density d3q19 (parts_of v) ≡ density_at part c
  unfolding density_at d3q19
  own-density = density-same d3q19 (parts_of v) (part c) (λ k h. own_at k (omega arith))
