-- The flags that an invert's rows give a grid: the height of each column, and the cells whose centres lie below it. Assumes nothing.
use Rattle.std.specs.Prelude.{Bool, ◌||◌, cond, List, ℕ, zero, suc, ◌+◌, ◌-◌, ◌*◌, ◌/◌, ◌%◌, ℤ, pos, ◌*ℤ◌, Option, Some, None}
use Rattle.std.specs.Int.Signed.{quot_z, lt_z}
use Rattle.whole.specs.Fold.{tab}
use Rattle.grid.specs.declared.Sides.{Sides}
use Rattle.grid.specs.Grid.{cells_of, grid_of}
use Rattle.numerals.specs.Text.{word, after_word, from_line}
use Rattle.numerals.specs.Number.{number_of}
use Rattle.heights.specs.Header.{is_no_data}

-- word x of a line, from 0
unfoldable pub nth_word : ℕ → List ℕ → List ℕ
nth_word zero t = word t
nth_word (suc x) t = nth_word x (after_word t)

abbrev pub or_zero : Option ℤ → ℤ
or_zero (Some z) = z
or_zero None = pos 0

-- the value at (x, y) in thousandths: the rows begin at t, the first of the m rows is y = m − 1, the last y = 0
unfoldable pub value_at : List ℕ → ℕ → ℕ → ℕ → ℤ
value_at t m x y = or_zero (number_of (nth_word x (from_line (m - 1 - y) t)))

-- a cell at height z of a column is wall if no height is given there, or its centre lies below it: (2z + 1)·edge < 2v, v in millimetres; equal is not below
unfoldable pub solid_at : ℤ → ℕ → ℕ → Bool
solid_at v edge z = is_no_data v || lt_z (pos ((2 * z + 1) * edge)) (pos 2 *ℤ quot_z v (pos 1000))

-- a cell is wall if it is outer, or its column's height says so; else empty
unfoldable pub invert_flag : Sides → ℕ → List ℕ → ℕ → ℕ
invert_flag s edge t c =
    let x = c % s.nx in
    let y = c / s.nx % s.ny in
    let z = c / (s.nx * s.ny) in
    cond ((grid_of s).outer c || solid_at (value_at t s.ny x y) edge z) 3 0

unfoldable pub invert_flags : Sides → ℕ → List ℕ → List ℕ
invert_flags s edge t = tab (cells_of s) (invert_flag s edge t)

-- names every definition of this file: whoever unfolds this computes with all of them
unfoldable pub open-invert : Unit {0}
unfolding nth_word value_at solid_at invert_flag invert_flags
open-invert = tt
