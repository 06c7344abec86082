-- What the run answers, and what each lent set with its index then holds, for every input: the base's run of the head, with poured and taken beside what it
-- reaches. Assumes nothing.
use Rattle.std.specs.Prelude.{cond, List, ℕ, leb, replicate}
use Rattle.lattice.specs.declared.Settings.{Settings}
use Rattle.grid.specs.declared.Sides.{Sides}
use Rattle.grid.specs.Answer.{Answer}
use Rattle.grid.specs.Answer.{Done}
use Rattle.grid.specs.Grid.{cells_of}
use Rattle.grid.specs.Outcome.{accepted, or_refuse, ran}
use Rattle.pumps.specs.Three.{head_of}
use Rattle.index.specs.Held.{Held}
use Rattle.calls.specs.Outcome.{kept, entry_answer}
use Rattle.grid.specs.declared.refusals.Refusal.TheVariants.{BadSteps}

-- 9 first, then 1 to 6 and 14, also of a run of no steps
unfoldable pub run_entry : ℕ → Sides → Settings → Held → Held → List ℕ → Answer
run_entry steps s g a b marks = or_refuse (leb steps 1000) BadSteps (entry_answer s g a b marks Done)

unfoldable pub run_count : ℕ → Sides → Settings → Held → Held → List ℕ → ℕ
run_count steps s g a b marks = cond (accepted (run_entry steps s g a b marks)) (ran s g marks steps (head_of a.set)).count 0

-- the refusal that stopped it, 0 0 if none did
unfoldable pub run_answer : ℕ → Sides → Settings → Held → Held → List ℕ → Answer
run_answer steps s g a b marks = cond (accepted (run_entry steps s g a b marks)) (ran s g marks steps (head_of a.set)).stop (run_entry steps s g a b marks)

-- but for refusals 1 to 6, 9 and 14, both sets hold the state reached with the first's poured and taken, and its index, and the marks are 0
unfoldable pub run_first : ℕ → Sides → Settings → Held → Held → List ℕ → Held
run_first steps s g a b marks = cond (accepted (run_entry steps s g a b marks)) (kept s a (ran s g marks steps (head_of a.set)).reached) a

unfoldable pub run_second : ℕ → Sides → Settings → Held → Held → List ℕ → Held
run_second steps s g a b marks = cond (accepted (run_entry steps s g a b marks)) (kept s a (ran s g marks steps (head_of a.set)).reached) b

unfoldable pub run_marks : ℕ → Sides → Settings → Held → Held → List ℕ → List ℕ
run_marks steps s g a b marks = cond (accepted (run_entry steps s g a b marks)) (replicate (cells_of s) 0) marks

-- names every definition of this file: whoever unfolds this computes with all of them
unfoldable pub open-outcome : Unit {0}
unfolding run_entry run_count run_answer run_first run_second run_marks
open-outcome = tt
