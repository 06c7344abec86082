-- What join and part answer, and what the slice that each may write then holds, for every input. Assumes nothing.
use Rattle.std.specs.Prelude.{ℕ, ◌&&◌, List, eqb, length}
use Rattle.grid.specs.declared.Sides.{Sides}
use Rattle.grid.specs.Answer.{Answer}
use Rattle.grid.specs.Answer.{Done}
use Rattle.grid.specs.Grid.{cells_of, sides_good, grid_of}
use Rattle.grid.specs.State.{Lent, flag_of}
use Rattle.grid.specs.Good.{bad_flag}
use Rattle.grid.specs.Outcome.{or_refuse, if_none}
use Rattle.schemes.specs.Scheme.{joined_flags, parted_flags, tested}
use Rattle.grid.specs.declared.refusals.Refusal.TheVariants.{BadFlag, BadLength, BadSides}
use Rattle.std.specs.Prelude.{Ok, Err}

-- by an answer: accepted, or refused
module _ {ℓ} {A : Type ℓ} where
  abbrev pub if_done : Answer → A → A → A
  if_done (Ok _) moved untouched = moved
  if_done (Err refusal) moved untouched = untouched

-- ---- join: the tests of a scheme, then the grid's flags; a refusal writes nothing

unfoldable pub join_answer : Sides → List ℕ → Lent → List ℕ → Answer
join_answer s map a grid = tested s map a (eqb (length grid) (cells_of s))

unfoldable pub join_grid : Sides → List ℕ → Lent → List ℕ → List ℕ
join_grid s map a grid = if_done (join_answer s map a grid) (joined_flags s map a.flags) grid

-- ---- part: 1, 2, 4 of the grid's flags, then the own flags

unfoldable pub part_answer : Sides → List ℕ → List ℕ → Answer
part_answer s grid own =
    or_refuse (sides_good s) BadSides
    (or_refuse (eqb (length grid) (cells_of s) && eqb (length own) (cells_of s)) BadLength
    (if_none (cells_of s) BadFlag (bad_flag (grid_of s) (flag_of grid)) Done))

unfoldable pub part_own : Sides → List ℕ → List ℕ → List ℕ
part_own s grid own = if_done (part_answer s grid own) (parted_flags s grid) own

-- names every definition of this file: whoever unfolds this computes with all of them
unfoldable pub open-outcome : Unit {0}
unfolding join_answer join_grid part_answer part_own
open-outcome = tt
