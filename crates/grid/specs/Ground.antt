-- What check, step and run answer and leave over one ground: a lattice, a grid and its sides' test. Document 01's box is one, document 02's flume another.
-- Assumes nothing.
use Rattle.std.specs.Prelude.{ℕ, suc, Bool, ◌&&◌, cond, List, leb, eqb, length, replicate}
use Rattle.lattice.specs.Lattice.{Lattice, d3q19}
use Rattle.lattice.specs.declared.Settings.{Settings}
use Rattle.grid.specs.declared.Sides.{Sides}
use Rattle.grid.specs.Answer.{Answer}
use Rattle.grid.specs.Answer.{Done}
use Rattle.grid.specs.Grid.{Grid, cells_of, sides_good, grid_of}
use Rattle.grid.specs.State.{Lent, State, Scene, state_of, lent_of}
use Rattle.grid.specs.Step.{next}
use Rattle.grid.specs.Mode.{scene_by}
use Rattle.grid.specs.Outcome.{accepted, or_refuse, checking, entering, good_answer, move_answer, lengths_fit, settings_good, by_answer, Ran, ran_by}
use Rattle.grid.specs.declared.refusals.Refusal.TheVariants.{BadSteps}

-- lattice, grid and whether the sides pass test 1; how many directions and cells they have stands beside them, as the outcomes name them
pub record Ground : Type 0 where
  pub lat : Lattice
  pub grid : Grid
  pub fits : Bool
  pub directions : ℕ
  pub cells : ℕ

abbrev pub ground : Lattice → Grid → Bool → Ground
ground L G fits = record { lat = L; grid = G; fits = fits; directions = L.q; cells = G.cells }

-- document 01's box
abbrev pub box_ground : Sides → Ground
box_ground s = record { lat = d3q19; grid = grid_of s; fits = sides_good s; directions = 18; cells = cells_of s }

module _ (G : Ground) where
  abbrev pub lengths_on : Lent → Bool
  lengths_on a = lengths_fit (suc G.directions) G.cells a

  abbrev pub state_on : Lent → State
  state_on a = state_of G.directions a

  -- ---- the check
  abbrev pub check_on : Lent → Answer
  check_on a = checking G.fits (lengths_on a) (good_answer G.lat G.grid (state_on a) Done)

  -- ---- the step: the first set's state with the settings; tests 1 to 6; its answer, the next state as a set, the second set and the marks
  abbrev pub scene_on : Settings → Lent → Scene
  scene_on g a = scene_by G.lat G.grid (state_on a) g

  abbrev pub entry_on : Settings → Lent → Lent → List ℕ → Answer → Answer
  entry_on g a b marks rest =
      entering G.fits (lengths_on a && lengths_on b && eqb (length marks) G.cells) (settings_good g) (good_answer G.lat G.grid (state_on a) rest)

  abbrev pub step_on : Settings → Lent → Lent → List ℕ → Answer
  step_on g a b marks = entry_on g a b marks (move_answer (scene_on g a))

  abbrev pub next_on : Settings → Lent → Lent
  next_on g a = lent_of G.directions G.cells (next (scene_on g a))

  abbrev pub second_on : Settings → Lent → Lent → List ℕ → Lent
  second_on g a b marks = by_answer (step_on g a b marks) (next_on g a) a b

  abbrev pub marks_on : Settings → Lent → Lent → List ℕ → List ℕ
  marks_on g a b marks = by_answer (step_on g a b marks) (replicate G.cells 0) (replicate G.cells 0) marks

  -- ---- the run: its steps, its entry, count, answer, both sets and the marks
  abbrev pub ran_on : Settings → List ℕ → ℕ → Lent → Ran
  ran_on g marks k a = ran_by (λ b. step_on g b b marks) (next_on g) k a

  abbrev pub run_entry_on : ℕ → Settings → Lent → Lent → List ℕ → Answer
  run_entry_on steps g a b marks = or_refuse (leb steps 1000) BadSteps (entry_on g a b marks Done)

  abbrev pub run_count_on : ℕ → Settings → Lent → Lent → List ℕ → ℕ
  run_count_on steps g a b marks = cond (accepted (run_entry_on steps g a b marks)) (ran_on g marks steps a).count 0

  abbrev pub run_answer_on : ℕ → Settings → Lent → Lent → List ℕ → Answer
  run_answer_on steps g a b marks = cond (accepted (run_entry_on steps g a b marks)) (ran_on g marks steps a).stop (run_entry_on steps g a b marks)

  abbrev pub run_first_on : ℕ → Settings → Lent → Lent → List ℕ → Lent
  run_first_on steps g a b marks = cond (accepted (run_entry_on steps g a b marks)) (ran_on g marks steps a).reached a

  abbrev pub run_second_on : ℕ → Settings → Lent → Lent → List ℕ → Lent
  run_second_on steps g a b marks = cond (accepted (run_entry_on steps g a b marks)) (ran_on g marks steps a).reached b

  abbrev pub run_marks_on : ℕ → Settings → Lent → Lent → List ℕ → List ℕ
  run_marks_on steps g a b marks = cond (accepted (run_entry_on steps g a b marks)) (replicate G.cells 0) marks
