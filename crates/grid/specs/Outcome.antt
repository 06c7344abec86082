-- What check, step and run answer, and what each lent slice then holds, for every input. Assumes nothing.
use Rattle.std.specs.Prelude.{ℕ, zero, suc, ◌+◌, ◌*◌, Bool, true, false, ◌&&◌, cond, List, [], ◌∷◌, leb, eqb, length, replicate, Ok, Err}
use Rattle.whole.specs.Fold.{first}
use Rattle.lattice.specs.Lattice.{Lattice, d3q19}
use Rattle.lattice.specs.Cell.{relaxation_good, gravity_good}
use Rattle.lattice.specs.declared.Settings.{Settings}
use Rattle.grid.specs.declared.Sides.{Sides}
use Rattle.grid.specs.Answer.{Answer, Done, refusal_number, refusal_place, late}
use Rattle.grid.specs.declared.refusals.Refusal.{Refusal}
use Rattle.grid.specs.Grid.{Grid, cells_of, sides_good, grid_of}
use Rattle.grid.specs.State.{Lent, State, Scene, state_of, lent_of}
use Rattle.grid.specs.Step.{unsteady, next}
use Rattle.grid.specs.Mode.{scene_by}
use Rattle.grid.specs.Good.{bad_flag, bad_fluid, bad_rule}
use Rattle.grid.specs.declared.refusals.Refusal.TheVariants.{BadFlag, BadFlow, BadLayer, BadLength, BadNext, BadSetting, BadSides, BadState, BadSteps}

-- ---- answers: the paper's number and place for each case, 0 0 if accepted

abbrev pub number_of : Answer → ℕ
number_of (Ok _) = 0
number_of (Err refusal) = refusal_number refusal

abbrev pub place_of : Answer → ℕ
place_of (Ok _) = 0
place_of (Err refusal) = refusal_place refusal

abbrev pub accepted : Answer → Bool
accepted (Ok _) = true
accepted (Err _) = false

-- a test that holds lets the next one answer; one that fails answers
abbrev pub or_refuse : Bool → Refusal → Answer → Answer
or_refuse true refusal rest = rest
or_refuse false refusal rest = Err refusal

-- a search below its limit that finds a place answers with it
abbrev pub if_none : ℕ → (ℕ → Refusal) → ℕ → Answer → Answer
if_none limit refusal place rest = or_refuse (leb limit place) (refusal place) rest

-- ---- the chains of tests that check, step and run go through, on the box as on the flume

-- tests 1, 2 and then 4 to 6
abbrev pub checking : Bool → Bool → Answer → Answer
checking sides lengths good = or_refuse sides BadSides (or_refuse lengths BadLength good)

-- tests 1 to 3 and then 4 to 6
abbrev pub entering : Bool → Bool → Bool → Answer → Answer
entering sides lengths settings good = or_refuse sides BadSides (or_refuse lengths BadLength (or_refuse settings (BadSetting 0) good))

-- ---- tests 4 to 8, over any lattice and grid

unfoldable pub good_answer : Lattice → Grid → State → Answer → Answer
good_answer L G s rest =
    if_none G.cells BadFlag (bad_flag G s.flag)
    (if_none G.cells BadLayer (bad_fluid L.q G s.flag)
    (if_none (suc G.cells) BadState (bad_rule L G.cells s) rest))

unfoldable pub move_answer : Scene → Answer
move_answer S =
    if_none S.grid.cells BadFlow (first S.grid.cells (unsteady S))
    (if_none (suc S.grid.cells) BadNext (bad_rule S.lat S.grid.cells (next S)) Done)

-- ---- tests 1 to 3

-- a set's slices are of their exact lengths: n cells of so many parts, and in the box of 19
abbrev pub lengths_fit : ℕ → ℕ → Lent → Bool
lengths_fit parts n a =
    eqb (length a.flags) n && eqb (length a.parts) (parts * n) && eqb (length a.masses) n && eqb (length a.fills) n && eqb (length a.carry) 1

unfoldable pub lengths_good : ℕ → Lent → Bool
lengths_good n a = lengths_fit 19 n a

-- p and gravity in their ranges
unfoldable pub settings_good : Settings → Bool
settings_good g = relaxation_good g.p && gravity_good g.gx g.gy g.gz

-- ---- the check: tests 1, 2, 4, 5, 6 of one set

unfoldable pub check_answer : Sides → Lent → Answer
check_answer s a = checking (sides_good s) (lengths_good (cells_of s) a) (good_answer d3q19 (grid_of s) (state_of 18 a) Done)

-- ---- the step

-- the first set's state with the settings
unfoldable pub scene_of : Sides → Settings → Lent → Scene
scene_of s g a = scene_by d3q19 (grid_of s) (state_of 18 a) g

-- tests 1 to 6, and then `rest`
unfoldable pub entry_answer : Sides → Settings → Lent → Lent → List ℕ → Answer → Answer
entry_answer s g a b marks rest =
    entering (sides_good s) (lengths_good (cells_of s) a && lengths_good (cells_of s) b && eqb (length marks) (cells_of s)) (settings_good g)
    (good_answer d3q19 (grid_of s) (state_of 18 a) rest)

unfoldable pub step_answer : Sides → Settings → Lent → Lent → List ℕ → Answer
step_answer s g a b marks = entry_answer s g a b marks (move_answer (scene_of s g a))

-- the next state as a set
unfoldable pub next_of : Sides → Settings → Lent → Lent
next_of s g a = lent_of 18 (cells_of s) (next (scene_of s g a))

-- by an answer: accepted; refused with 7 or 8; refused with another number, which writes nothing
module _ {ℓ} {A : Type ℓ} where
  abbrev pub by_answer : Answer → A → A → A → A
  by_answer (Ok _) moved copied untouched = moved
  by_answer (Err refusal) moved copied untouched = cond (late refusal) copied untouched

-- the second set: the next state, a copy of the first, or untouched
unfoldable pub step_second : Sides → Settings → Lent → Lent → List ℕ → Lent
step_second s g a b marks = by_answer (step_answer s g a b marks) (next_of s g a) a b

-- the marks: 0, or untouched
unfoldable pub step_marks : Sides → Settings → Lent → Lent → List ℕ → List ℕ
step_marks s g a b marks = by_answer (step_answer s g a b marks) (replicate (cells_of s) 0) (replicate (cells_of s) 0) marks

-- ---- the run

-- the count of leading accepted steps, the refusal that stopped it, and the set reached
pub record Ran : Type 0 where
  pub count : ℕ
  pub stop : Answer
  pub reached : Lent

-- step after step, by what a step answers and leaves; it stops at the first refused one
abbrev pub ran_by : (Lent → Answer) → (Lent → Lent) → ℕ → Lent → Ran
ran_by answer onward zero a = record { count = 0; stop = Done; reached = a }
ran_by answer onward (suc k) a =
    elim (accepted (answer a)) [
      | true ↦ let r = ran_by answer onward k (onward a) in record { count = suc r.count; stop = r.stop; reached = r.reached }
      | false ↦ record { count = 0; stop = answer a; reached = a }
    ]

-- as the step's own outcome has it
unfoldable pub ran : Sides → Settings → List ℕ → ℕ → Lent → Ran
ran s g marks k a = ran_by (λ b. step_answer s g b b marks) (next_of s g) k a

-- 9 first, then 1 to 6, also of a run of no steps
unfoldable pub run_entry : ℕ → Sides → Settings → Lent → Lent → List ℕ → Answer
run_entry steps s g a b marks = or_refuse (leb steps 1000) BadSteps (entry_answer s g a b marks Done)

unfoldable pub run_count : ℕ → Sides → Settings → Lent → Lent → List ℕ → ℕ
run_count steps s g a b marks = cond (accepted (run_entry steps s g a b marks)) (ran s g marks steps a).count 0

-- the refusal that stopped it, 0 0 if none did
unfoldable pub run_answer : ℕ → Sides → Settings → Lent → Lent → List ℕ → Answer
run_answer steps s g a b marks = cond (accepted (run_entry steps s g a b marks)) (ran s g marks steps a).stop (run_entry steps s g a b marks)

-- but for refusals 1 to 6 and 9, both sets hold the state reached and the marks are 0
unfoldable pub run_first : ℕ → Sides → Settings → Lent → Lent → List ℕ → Lent
run_first steps s g a b marks = cond (accepted (run_entry steps s g a b marks)) (ran s g marks steps a).reached a

unfoldable pub run_second : ℕ → Sides → Settings → Lent → Lent → List ℕ → Lent
run_second steps s g a b marks = cond (accepted (run_entry steps s g a b marks)) (ran s g marks steps a).reached b

unfoldable pub run_marks : ℕ → Sides → Settings → Lent → Lent → List ℕ → List ℕ
run_marks steps s g a b marks = cond (accepted (run_entry steps s g a b marks)) (replicate (cells_of s) 0) marks

-- names every definition of this file: whoever unfolds this computes with all of them
unfoldable pub open-outcome : Unit {0}
unfolding good_answer move_answer lengths_good settings_good check_answer scene_of entry_answer step_answer next_of step_second step_marks ran run_entry run_count run_answer run_first run_second run_marks
open-outcome = tt
