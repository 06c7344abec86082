-- An array of nineteen parts that is tabulated from f has f's parts, bounds, density and momentum. Assumes nothing.
use mathlib.Core.Path.{◌≡◌, sym, ap, ◌∙◌, subst}
use mathlib.Core.List.{List}
use Prim.Native.Nat.{ℕ, ◌<◌}
use native.Mathlib.Omega.{arith}
use lib.IntN.{ℤ, pos}
use lib.ListN.{get_or}
use Rattle.whole.specs.Fold.{tab}
use Rattle.whole.specs.laws.Tab.{get_or-tab}
use Rattle.whole.specs.laws.Machine.{Within}
use Rattle.lattice.specs.Lattice.{d3q19, density, momentum}
use Rattle.lattice.specs.inner.Held.{parts_of, Bounded}
use Rattle.grid.proofs.Same.{density-same, momentum-same}

module _ (l : List ℤ) (f : ℕ → ℤ) (e : l ≡ tab 19 f) where
  pub part-is : (k : ℕ) → k < 19 → parts_of l k ≡ f k
  part-is k h = ap (λ (m : List ℤ). get_or m k (pos 0)) e ∙ get_or-tab 19 f (pos 0) k h

  pub density-is : density d3q19 (parts_of l) ≡ density d3q19 f
  unfolding d3q19
  density-is = density-same d3q19 (parts_of l) f (λ k h. part-is k (omega arith))

  pub momentum-is : momentum d3q19 (parts_of l) ≡ momentum d3q19 f
  unfolding d3q19
  momentum-is = momentum-same d3q19 (parts_of l) f (λ k h. part-is k (omega arith))

  pub bounded-is : {r b : ℕ} → Within (f 0) r → ((k : ℕ) → 0 < k → k < 19 → Within (f k) b) → Bounded l r b
  bounded-is {r} {b} h g = record {
    rest = subst (λ (z : ℤ). Within z r) (sym (part-is 0 (omega arith))) h;
    at = λ k n m. subst (λ (z : ℤ). Within z b) (sym (part-is k m)) (g k n m);
  }
