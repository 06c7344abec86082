-- What the flume's mirror answers, and what the second set then holds, for every input. Assumes nothing.
use Rattle.std.specs.Prelude.{Bool, ◌&&◌, ◌||◌, ℕ, eqb}
use Rattle.lattice.specs.Lattice.{d2q9}
use Rattle.grid.specs.Answer.{Answer}
use Rattle.grid.specs.Answer.{Done}
use Rattle.grid.specs.State.{Lent, state_of}
use Rattle.grid.specs.Outcome.{or_refuse, good_answer}
use Rattle.flume.specs.declared.FlumeSides.{FlumeSides}
use Rattle.flume.specs.Flume.{flume_sides_good, flume_cells, flume_grid, flume_lengths}
use Rattle.flumemirroring.specs.Turned.{flume_turned}
use Rattle.grid.specs.declared.refusals.Refusal.TheVariants.{BadLength, BadSetting, BadSides}
use Rattle.std.specs.Prelude.{Ok, Err}

-- an axis that the flume has, by the box's number: 0 is x, 2 is z
unfoldable pub flume_axis : ℕ → Bool
flume_axis axis = eqb axis 0 || eqb axis 2

-- tests 1; 2 of both sets; 3 of the axis; 4, 5, 6 of the first set
unfoldable pub flume_mirror_answer : FlumeSides → ℕ → Lent → Lent → Answer
flume_mirror_answer s axis a b =
    or_refuse (flume_sides_good s) BadSides
    (or_refuse (flume_lengths (flume_cells s) a && flume_lengths (flume_cells s) b) BadLength
    (or_refuse (flume_axis axis) (BadSetting 0)
    (good_answer d2q9 (flume_grid s) (state_of 8 a) Done)))

-- by an answer: accepted, or refused
abbrev pub if_done : Answer → Lent → Lent → Lent
if_done (Ok _) made untouched = made
if_done (Err refusal) made untouched = untouched

-- the second set: the first one reflected; a refusal writes nothing
unfoldable pub flume_mirror_second : FlumeSides → ℕ → Lent → Lent → Lent
flume_mirror_second s axis a b = if_done (flume_mirror_answer s axis a b) (flume_turned s axis a) b

-- names every definition of this file: whoever unfolds this computes with all of them
unfoldable pub open-outcome : Unit {0}
unfolding flume_axis flume_mirror_answer flume_mirror_second
open-outcome = tt
