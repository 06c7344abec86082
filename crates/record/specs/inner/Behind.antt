-- Sections 6 and 7 of a record of the box: where they begin, and how its end is tested. Assumes nothing.
use Rattle.std.specs.Prelude.{ℕ, ◌*◌, List}
use Rattle.grid.specs.Answer.{Answer}
use Rattle.record.specs.Places.{counts, masses_from}
use Rattle.record.specs.Reading.{totals_in, cells_in, ends_on}

-- 19 parts a cell
abbrev pub ends : List ℕ → ℕ → ℕ → ℕ → Answer → Answer
ends r from i l rest = ends_on r from i (19 * l) rest

-- where they begin in a record
abbrev pub behind_flags : List ℕ → ℕ
behind_flags r = masses_from counts (totals_in r) (cells_in r)
