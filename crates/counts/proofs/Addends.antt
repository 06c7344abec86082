-- Counts and sums of a list's elements, one more at a time, and their bounds. Assumes nothing.
use mathlib.Core.Path.{◌≡◌, ap}
use mathlib.Core.Bool.{Bool, true, false, cond}
use mathlib.Core.List.{List}
use Prim.Native.Nat.{ℕ, zero, suc, ◌+◌, ◌≤◌, ◌<◌}
use native.Mathlib.Omega.{arith}
use lib.Dec.{eqb}
use lib.IntN.{ℤ, pos, negsuc, nat_abs, ◌+ℤ◌}
use lib.ListN.{get_or}
use lib.Signed.{mag}
use Rattle.whole.specs.Fold.{count, sum}

-- the cells of a kind among the first n
abbrev pub kind_in : List ℕ → ℕ → ℕ → ℕ
kind_in flags wanted n = count n (λ c. eqb (get_or flags c 0) wanted)

-- the first n masses
abbrev pub mass_in : List ℤ → ℕ → ℤ
mass_in masses n = sum n (λ c. get_or masses c (pos 0))

next : (n : ℕ) → suc n ≡ n + 1
next n = omega arith

pub kind-more : (flags : List ℕ) (wanted n : ℕ) → kind_in flags wanted n + cond (eqb (get_or flags n 0) wanted) 1 0 ≡ kind_in flags wanted (n + 1)
unfolding count
kind-more flags wanted n = ap (kind_in flags wanted) (next n)

at_most_one : (b : Bool) → cond b 1 0 ≤ 1
at_most_one true = omega arith
at_most_one false = omega arith

pub kind-most : (flags : List ℕ) (wanted n : ℕ) → kind_in flags wanted n ≤ n
unfolding count
kind-most flags wanted zero = omega arith
kind-most flags wanted (suc n) = omega (arith, kind-most flags wanted n, at_most_one (eqb (get_or flags n 0) wanted))

pub mass-more : (masses : List ℤ) (n : ℕ) → mass_in masses n +ℤ get_or masses n (pos 0) ≡ mass_in masses (n + 1)
unfolding sum
mass-more masses n = ap (mass_in masses) (next n)

pub abs_mag : (z : ℤ) (k : ℕ) → mag z < k → nat_abs z ≤ k
abs_mag (pos n) k h = omega arith
abs_mag (negsuc n) k h = omega arith
