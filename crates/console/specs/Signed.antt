-- The number that decimal digits spell, with a minus before them if it is negative. Assumes nothing.
use Rattle.std.specs.Prelude.{cond, List, [], ◌∷◌, ℕ, eqb, ℤ, pos, neg_ℤ, Option, Some, None}
use Rattle.console.specs.Decimal.{spelled_by}

-- a number as it is, and its negative
abbrev pub kept : Option ℕ → Option ℤ
kept (Some n) = Some (pos n)
kept None = None

abbrev pub negated : Option ℕ → Option ℤ
negated (Some n) = Some (neg_ℤ (pos n))
negated None = None

-- digits, or a minus and digits, from -2^63 to 2^63 - 1
unfoldable pub signed_by : List ℕ → Option ℤ
signed_by [] = None
signed_by (b ∷ t) = cond (eqb b 45) (negated (spelled_by t 9223372036854775808)) (kept (spelled_by (b ∷ t) 9223372036854775807))
