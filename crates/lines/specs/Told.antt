-- What gridstep tells of the bytes that it is given: the numbers of each line, for every input. Assumes nothing.
use Rattle.std.specs.Prelude.{ℕ, ◌*◌, cond, List, [], ◌∷◌, leb, pos, length}
use Rattle.grid.specs.Answer.{Answer}
use Rattle.grid.specs.Answer.{Done}
use Rattle.grid.specs.Grid.{sides_good, grid_of}
use Rattle.grid.specs.State.{Lent, lent}
use Rattle.grid.specs.Good.{bad_flag}
use Rattle.grid.specs.Outcome.{accepted, or_refuse, step_answer, next_of}
use Rattle.record.specs.Places.{counts}
use Rattle.record.specs.Reading.{sides_in, settings_in, totals_in, carry_in, cells_in, flags_in, flag_in, interfaces_in, liquids_in, set_in, shapes_on, content_answer}
use Rattle.counts.specs.declared.counting.Line.{Line}
use Rattle.lines.specs.declared.playing.Told.{Told}
use Rattle.counts.specs.Counts.{line_of}
use Rattle.grid.specs.declared.refusals.Refusal.TheVariants.{BadEnd}

-- more than 65,536 bytes are refused first, 10 at 65,536; then the reader's tests, of which 2 asks that N be at most 862
unfoldable pub record_answer : List ℕ → Answer
record_answer r =
    or_refuse (leb (length r) 65536) (BadEnd 65536)
    (shapes_on r counts (totals_in r) (cells_in r) (interfaces_in r) (19 * liquids_in r) (sides_good (sides_in r)) (leb (cells_in r) 862)
    (bad_flag (grid_of (sides_in r)) (flag_in r)) (content_answer r))

-- the state before the step: the record's, of whose totals the step is lent the carry
abbrev pub state_before : List ℕ → Lent
state_before r = let l = set_in r in lent (flags_in r) l.parts l.masses l.fills (carry_in r ∷ [])

-- the step's answer, its second set and its marks being as long as the first set and its flags
unfoldable pub step_of : List ℕ → Answer
step_of r = step_answer (sides_in r) (settings_in r) (state_before r) (state_before r) (flags_in r)

-- the state after it: the next one; after a refused step the same again
unfoldable pub state_after : List ℕ → Lent
state_after r = cond (accepted (step_of r)) (next_of (sides_in r) (settings_in r) (state_before r)) (state_before r)

-- a refused record is told by its answer alone: beside it every number is 0
abbrev pub no_line : Line
no_line = record { fluid = 0; interface = 0; empty = 0; wall = 0; total = pos 0; carry = pos 0 }

abbrev pub refusal : Answer → Told
refusal a = record { read = a; before = no_line; step = Done; after = no_line }

unfoldable pub told_of : List ℕ → Told
told_of r =
    cond (accepted (record_answer r)) (record { read = Done; before = line_of (state_before r); step = step_of r; after = line_of (state_after r) })
    (refusal (record_answer r))

-- names every definition of this file: whoever unfolds this computes with all of them
unfoldable pub open_told : Unit {0}
unfolding record_answer step_of state_after told_of
open_told = tt
