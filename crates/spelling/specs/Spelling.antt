-- How the writer of a height grid spells numbers: no zero in front; metres as a minus if below 0, the whole metres, a point, three digits. Assumes nothing.
use Rattle.std.specs.Prelude.{◌≡◌, true, false, cond, List, [], ◌∷◌, ◌++◌, ℕ, zero, suc, ◌+◌, ◌/◌, ◌%◌, ltb, ℤ, pos, nat_abs}
use Rattle.std.specs.Int.Signed.{lt_z}

-- the k lowest digits of n
unfoldable pub digits_of : ℕ → ℕ → List ℕ
digits_of zero n = []
digits_of (suc k) n = digits_of k (n / 10) ++ (48 + n % 10) ∷ []

-- how many digits n has, at most f + 1
unfoldable pub width_from : ℕ → ℕ → ℕ
width_from zero n = 1
width_from (suc f) n = elim (ltb n 10) [ true ↦ 1 | false ↦ suc (width_from f (n / 10)) ]

-- of a number of 64 bits, which has at most 20
abbrev pub width : ℕ → ℕ
width n = width_from 19 n

unfoldable pub spell_of : ℕ → List ℕ
spell_of n = digits_of (width n) n

unfoldable pub sign_of : ℤ → List ℕ
sign_of z = cond (lt_z z (pos 0)) (45 ∷ []) []

-- a whole number, and millimetres as metres
unfoldable pub whole_of : ℤ → List ℕ
whole_of z = sign_of z ++ spell_of (nat_abs z)

unfoldable pub metres_of : ℤ → List ℕ
metres_of z = sign_of z ++ (spell_of (nat_abs z / 1000) ++ 46 ∷ digits_of 3 (nat_abs z % 1000))

-- names every definition of this file: whoever unfolds this computes with all of them
unfoldable pub open-spelling : Unit {0}
unfolding digits_of width_from spell_of sign_of whole_of metres_of
open-spelling = tt
