-- The rows: m lines of exactly n whole numbers, and no word behind them. Assumes nothing.
use Rattle.std.specs.Prelude.{Bool, true, false, cond, List, [], ◌∷◌, ℕ, zero, suc, ◌+◌, eqb, length, ℤ, Option, Some, None, Result, Ok, Err}
use Rattle.numerals.specs.declared.text.Kind.TheVariants.{Word}
use Rattle.numerals.specs.Text.{of_kind, word, after_word, next_line}
use Rattle.numerals.specs.Number.{number_of}
use Rattle.heights.specs.Header.{is_whole}

abbrev pub is_whole_number : Option ℤ → Bool
is_whole_number (Some z) = is_whole z
is_whole_number None = false

-- a line of n whole numbers and no word more
unfoldable pub row_good : ℕ → List ℕ → Bool
row_good zero t = eqb (length (word t)) 0
row_good (suc n) t = elim (is_whole_number (number_of (word t))) [ true ↦ row_good n (after_word t) | false ↦ false ]

-- the line of the first word of what is left, which begins in line i
abbrev pub line_after : ℕ → ℕ → ℕ
line_after b i = cond (eqb b 10) (i + 1) i

unfoldable pub tail_of : List ℕ → ℕ → Result (Unit {0}) ℕ
tail_of [] i = Ok tt
tail_of (b ∷ t) i = elim (of_kind Word b) [ true ↦ Err i | false ↦ tail_of t (line_after b i) ]

-- m rows of n numbers, the first in line i, and nothing behind them
unfoldable pub rows_of : ℕ → ℕ → List ℕ → ℕ → Result (Unit {0}) ℕ
rows_of zero n t i = tail_of t i
rows_of (suc m) n t i = elim (row_good n t) [ true ↦ rows_of m n (next_line t) (i + 1) | false ↦ Err i ]

-- names every definition of this file: whoever unfolds this computes with all of them
unfoldable pub open-rows : Unit {0}
unfolding row_good tail_of rows_of
open-rows = tt
