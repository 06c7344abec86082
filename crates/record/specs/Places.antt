-- Where the sections of a record stand, as functions of their counts: a section is its count (u32) and so many numbers, of 4 bytes in sections 1, 2, 6
-- and 7, of 8 in 3 and 4, of 1 in section 5. Assumes nothing.
use Rattle.std.specs.Prelude.{ℕ, ◌+◌, ◌*◌}
use Rattle.record.specs.declared.Counts.{Counts}

-- the byte behind the count and the first n numbers of a section that begins at `from`: that of its number n, and of the next section
abbrev pub past : ℕ → ℕ → ℕ → ℕ
past from size n = from + 4 + size * n

-- the end of a record whose section 5 begins at `from`, with n flags, i masses and m parts
abbrev pub end_from : ℕ → ℕ → ℕ → ℕ → ℕ
end_from from n i m = past (past (from + 4 + n) 4 i) 4 m

-- the byte where each section begins, that of its count; section 4 holds k numbers, section 5 n, section 6 i, section 7 m
module _ (K : Counts) where
  abbrev pub settings_from : ℕ
  settings_from = past 0 4 K.sides

  abbrev pub origin_from : ℕ
  origin_from = past settings_from 4 K.settings

  abbrev pub totals_from : ℕ
  totals_from = past origin_from 8 K.origin

  abbrev pub cells_from : ℕ → ℕ
  cells_from k = past totals_from 8 k

  abbrev pub masses_from : ℕ → ℕ → ℕ
  masses_from k n = cells_from k + 4 + n

  abbrev pub parts_from : ℕ → ℕ → ℕ → ℕ
  parts_from k n i = past (masses_from k n) 4 i

  -- and the record's length
  abbrev pub length_of : ℕ → ℕ → ℕ → ℕ → ℕ
  length_of k n i m = end_from (cells_from k) n i m

-- the grid record: 3 sides, 5 settings, 3 origin numbers, 19 parts a cell, so that sections begin at 0, 16, 40, 68, 72 + 8k, 76 + 8k + N, 80 + 8k + N + 4I
abbrev pub counts : Counts
counts = record { sides = 3; settings = 5; origin = 3; parts = 19 }
