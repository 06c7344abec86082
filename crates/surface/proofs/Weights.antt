-- Weights: positive numbers, the lowest direction with positive weight, and the total weight's bound. Assumes nothing.
use mathlib.Core.Path.{◌≡◌, refl, ap}
use mathlib.Core.Bool.{true, false}
use mathlib.Core.List.{List}
use Prim.Native.Nat.{ℕ, zero, suc, ◌<◌}
use native.Mathlib.Nat.{lt_irrefl, le_of_suc-le-suc}
use native.Mathlib.Omega.{arith}
use lib.IntN.{ℤ, pos, negsuc}
use lib.Signed.{◌≤ℤ◌, ◌<ℤ◌}
use Rattle.whole.specs.laws.Parts.{≤-parts, <-parts}
use Rattle.whole.specs.Fold.{dirs}
use Rattle.whole.specs.laws.Search.{first-is, first-all}
use Rattle.whole.specs.laws.Sums.{sum-abs}
use Rattle.whole.specs.laws.Machine.{Within}
use Rattle.lattice.specs.Cell.{positive, is_positive, lowest_dir}
use Rattle.lattice.specs.inner.Held.{parts_of, Weights}

pub positive-yes : (z : ℤ) → pos 0 <ℤ z → positive z ≡ z
positive-yes (pos n) h = refl
positive-yes (negsuc n) h = absurd h.lt

pub positive-no : (z : ℤ) → z ≤ℤ pos 0 → positive z ≡ pos 0
positive-no (pos zero) h = refl
positive-no (pos (suc n)) h = absurd (omega (arith, ≤-parts h))
positive-no (negsuc n) h = refl

pub is-positive-yes : (z : ℤ) → pos 0 <ℤ z → is_positive z ≡ true
is-positive-yes (pos zero) h = absurd (omega (arith, <-parts h))
is-positive-yes (pos (suc n)) h = refl
is-positive-yes (negsuc n) h = absurd h.lt

pub is-positive-no : (z : ℤ) → z ≤ℤ pos 0 → is_positive z ≡ false
is-positive-no (pos zero) h = refl
is-positive-no (pos (suc n)) h = absurd (omega (arith, ≤-parts h))
is-positive-no (negsuc n) h = refl

pub lowest-is : (w : ℕ → ℤ) (i : ℕ) → 0 < i → i < 19 → ((j : ℕ) → 0 < j → j < i → is_positive (w j) ≡ false) → is_positive (w i) ≡ true → lowest_dir 18 w ≡ i
unfolding lowest_dir
lowest-is w zero h k low e = absurd (lt_irrefl 0 h)
lowest-is w (suc a) h k low e = ap suc (first-is 18 (λ b. is_positive (w (suc b))) a (le_of_suc-le-suc k) (λ b m. low (suc b) (omega arith) (omega arith)) e)

pub lowest-none : (w : ℕ → ℤ) → ((j : ℕ) → 0 < j → j < 19 → is_positive (w j) ≡ false) → lowest_dir 18 w ≡ 19
unfolding lowest_dir
lowest-none w low = ap suc (first-all 18 (λ b. is_positive (w (suc b))) (λ b m. low (suc b) (omega arith) (omega arith)))

pub total-in : (w : List ℤ) → Weights w → Within (dirs 18 (parts_of w)) 18000000
total-in w h = record { abs = omega (arith, sum-abs 18 (λ a. parts_of w (suc a)) 1000000 (λ a m. (h.at (suc a) (omega arith) (omega arith)).abs)) }
