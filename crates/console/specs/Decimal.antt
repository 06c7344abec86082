-- The number that decimal digits spell. Assumes nothing.
use Rattle.std.specs.Prelude.{Bool, true, ◌&&◌, cond, List, [], ◌∷◌, ℕ, ◌+◌, ◌-◌, ◌*◌, leb, ltb, length, Option, Some, None}

-- the bytes of the digits 0 to 9
abbrev pub is_digit : ℕ → Bool
is_digit b = leb 48 b && leb b 57

-- every byte is a digit
unfoldable pub are_digits : List ℕ → Bool
are_digits [] = true
are_digits (b ∷ t) = is_digit b && are_digits t

-- the number that digits spell after others that spell n: each makes ten times what stood before it, and itself
unfoldable pub number_after : ℕ → List ℕ → ℕ
number_after n [] = n
number_after n (b ∷ t) = number_after (10 * n + (b - 48)) t

-- a text spells a number if it is one digit or more and nothing else; one above `most` cannot be read
unfoldable pub spelled_by : List ℕ → ℕ → Option ℕ
spelled_by t most = cond (ltb 0 (length t) && are_digits t && leb (number_after 0 t) most) (Some (number_after 0 t)) None
