-- What the mirror answers, and what the second set and its index then hold, for every input. Assumes nothing.
use Rattle.std.specs.Prelude.{◌&&◌, ℕ, leb}
use Rattle.grid.specs.declared.Sides.{Sides}
use Rattle.grid.specs.Answer.{Answer}
use Rattle.grid.specs.Answer.{Done}
use Rattle.grid.specs.Grid.{cells_of, sides_good}
use Rattle.grid.specs.State.{Lent}
use Rattle.grid.specs.Outcome.{or_refuse}
use Rattle.pumps.specs.Three.{three_lengths, three_good}
use Rattle.index.specs.Index.{index_sized}
use Rattle.index.specs.Held.{Held, indexed}
use Rattle.mirroring.specs.Turned.{turned}
use Rattle.grid.specs.declared.refusals.Refusal.TheVariants.{BadLength, BadSetting, BadSides}
use Rattle.std.specs.Prelude.{Ok, Err}

-- tests 1; 2 of both sets and of the second's index; 3 of the axis; 4, 5, 6 of the first set
unfoldable pub mirror_answer : Sides → ℕ → Lent → Held → Answer
mirror_answer s axis a b =
    or_refuse (sides_good s) BadSides
    (or_refuse ((three_lengths (cells_of s) a && three_lengths (cells_of s) b.set) && index_sized (cells_of s) b.index) BadLength
    (or_refuse (leb axis 2) (BadSetting 0)
    (three_good s a Done)))

-- by an answer: accepted, or refused
abbrev pub if_done : Answer → Held → Held → Held
if_done (Ok _) made untouched = made
if_done (Err refusal) made untouched = untouched

-- the second set: the first one reflected, with the index that its flags make; a refusal writes nothing
unfoldable pub mirror_second : Sides → ℕ → Lent → Held → Held
mirror_second s axis a b = if_done (mirror_answer s axis a b) (indexed s (turned s axis a)) b

-- names every definition of this file: whoever unfolds this computes with all of them
unfoldable pub open-outcome : Unit {0}
unfolding mirror_answer mirror_second
open-outcome = tt
