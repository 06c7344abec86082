-- The table of spellings: which words are numbers, and what they are in thousandths. Assumes nothing.
use Rattle.std.specs.Prelude.{List, [], ◌∷◌, ℤ, pos, negsuc, Option, Some, None}
use Prim.Native.String.{String}
use Rattle.numerals.specs.Number.{number_of}
use Rattle.heightfigures.specs.Texts.{bytes, Figure}

-- a number in thousandths, nothing if the word is none
abbrev told : Option ℤ → List ℤ
told (Some z) = z ∷ []
told None = []

abbrev taken : String → ℤ → Figure
taken w z = record { worked = told (number_of (bytes w)); said = z ∷ [] }

abbrev refused : String → Figure
refused w = record { worked = told (number_of (bytes w)); said = [] }

abbrev pub numbers : List Figure
numbers =
    taken "5" (pos 5000)
    ∷ taken "005" (pos 5000)
    ∷ taken "5.0" (pos 5000)
    ∷ taken "5.000000" (pos 5000)
    ∷ taken "-0" (pos 0)
    ∷ taken "-0.000" (pos 0)
    ∷ taken "0.05" (pos 50)
    ∷ taken "0.050" (pos 50)
    ∷ taken "0.0500000" (pos 50)
    ∷ taken "-9999" (negsuc 9998999)
    ∷ taken "-9999.0" (negsuc 9998999)
    ∷ taken "999999999999.999" (pos 999999999999999)
    ∷ refused "+5"
    ∷ refused "--5"
    ∷ refused "5."
    ∷ refused ".5"
    ∷ refused "1e3"
    ∷ refused "1,5"
    ∷ refused "five"
    ∷ refused ""
    ∷ refused "0.0005"
    ∷ refused "1234567890123"
    ∷ refused "-"
    ∷ taken "-0.050" (negsuc 49)
    ∷ []
