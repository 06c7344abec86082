-- What inner functions tell their callers, over any slices. The program's own promise does not cite this file. Assumes nothing.
use Rattle.std.specs.Prelude.{cond, List, ℕ, pos, get_or}
use Rattle.lattice.specs.declared.Settings.{Settings}
use Rattle.grid.specs.declared.Sides.{Sides}
use Rattle.grid.specs.Answer.{Done}
use Rattle.grid.specs.State.{Lent}
use Rattle.grid.specs.Outcome.{accepted, step_answer, step_second}
use Rattle.record.specs.Reading.{sides_in, settings_in, read_answer}
use Rattle.counts.specs.declared.counting.Line.{Line}
use Rattle.lines.specs.declared.playing.Told.{Told}
use Rattle.counts.specs.Counts.{line_with}
use Rattle.counts.specs.inner.Totals.{total_by}
use Rattle.lines.specs.Told.{state_before, refusal}

abbrev pub line_by : Lent → Line
line_by a = let carry = get_or a.carry 0 (pos 0) in line_with a.flags (total_by a.masses carry) carry

-- the lines of a step from a set into a second one
abbrev pub stepped_by : Sides → Settings → Lent → Lent → List ℕ → Told
stepped_by s g a b marks = record { read = Done; before = line_by a; step = step_answer s g a b marks; after = line_by (step_second s g a b marks) }

-- all lines, of a record read into a set
unfoldable pub told_by : List ℕ → Lent → Lent → List ℕ → Told
told_by r a b marks = cond (accepted (read_answer r a)) (stepped_by (sides_in r) (settings_in r) (state_before r) b marks) (refusal (read_answer r a))
