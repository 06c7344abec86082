-- The numbers that words spell, in thousandths: perhaps a minus; 1 to 12 digits; perhaps a point and digits, those after the third all 0. Assumes nothing.
use Rattle.std.specs.Prelude.{Bool, ◌&&◌, ◌||◌, cond, List, [], ◌∷◌, ℕ, zero, suc, ◌+◌, ◌-◌, ◌*◌, leb, ltb, eqb, ℤ, pos, neg_ℤ, length, get_or, drop, Option, Some, None}
use Rattle.numerals.specs.declared.text.Kind.TheVariants.{Digit, Nought}
use Rattle.numerals.specs.Text.{of_kind, run, every}

-- the digit at a place; past the end, where none is written, it is 0
unfoldable pub digit_at : List ℕ → ℕ → ℕ
digit_at w i = get_or w i 48 - 48

-- the number that the first n digits spell: each makes ten times what stood before it, and itself
unfoldable pub value_to : List ℕ → ℕ → ℕ
value_to w zero = 0
value_to w (suc n) = 10 * value_to w n + digit_at w n

-- the thousandths behind the point at k
unfoldable pub thousandths_at : List ℕ → ℕ → ℕ
thousandths_at w k = 100 * digit_at w (k + 1) + 10 * digit_at w (k + 2) + digit_at w (k + 3)

-- after k digits: nothing, or a point and one or more digits, those after the third all 0
unfoldable pub ends_well : List ℕ → ℕ → Bool
ends_well w k =
    leb (length w) k
    || (ltb (k + 1) (length w) && eqb (get_or w k 0) 46 && every (of_kind Digit) (drop (k + 1) w) && every (of_kind Nought) (drop (k + 4) w))

-- a number without its sign
unfoldable pub plain_of : List ℕ → Option ℕ
plain_of w =
    let k = run (of_kind Digit) w in
    cond (leb 1 k && leb k 12 && ends_well w k) (Some (1000 * value_to w k + thousandths_at w k)) None

abbrev pub kept : Option ℕ → Option ℤ
kept (Some n) = Some (pos n)
kept None = None

abbrev pub negated : Option ℕ → Option ℤ
negated (Some n) = Some (neg_ℤ (pos n))
negated None = None

-- a number: perhaps a minus before it
unfoldable pub number_of : List ℕ → Option ℤ
number_of [] = None
number_of (b ∷ t) = cond (eqb b 45) (negated (plain_of t)) (kept (plain_of (b ∷ t)))

-- names every definition of this file: whoever unfolds this computes with all of them
unfoldable pub open-number : Unit {0}
unfolding digit_at value_to thousandths_at ends_well plain_of number_of
open-number = tt
