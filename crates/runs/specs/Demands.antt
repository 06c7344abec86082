-- What is promised of the calls over their outcome: pour, take, step and run, in any order, keep the water to the unit; and what an act or a run leaves loads.
-- Assumes nothing.
use Rattle.std.specs.Prelude.{◌≡◌, Bool, List, ℕ, ℤ}
use Rattle.lattice.specs.declared.Settings.{Settings}
use Rattle.grid.specs.declared.Sides.{Sides}
use Rattle.grid.specs.Answer.{Done}
use Rattle.grid.specs.State.{Lent}
use Rattle.pumps.specs.Acts.{act_answer, act_set}
use Rattle.pumps.specs.Demands.{Lived, Holds}
use Rattle.index.specs.Held.{Held, held, Loads}
use Rattle.calls.specs.Outcome.{step_answer, step_second}
use Rattle.runs.specs.Outcome.{run_entry, run_first, run_second}

-- ---- the water

-- what the calls make of a set: acts and steps that were accepted, and runs that began, stopped early or not, in any order, each with settings, a second set and
-- marks of its own
pub data Used (s : Sides) (a : Lent) : Lent → Type 0 where
  start : Used s a a
  acted : {b : Lent} → Used s a b → (pour : Bool) (c : ℕ) (amount : ℤ) → act_answer pour s c amount b ≡ Done → Used s a (act_set pour c amount b)
  stepped : (b : Held) → Used s a b.set → (g : Settings) (second : Held) (marks : List ℕ) → step_answer s g b second marks ≡ Done → Used s a (step_second s g b second marks).set
  ran : (b : Held) → Used s a b.set → (steps : ℕ) (g : Settings) (second : Held) (marks : List ℕ) → run_entry steps s g b second marks ≡ Done → Used s a (run_first steps s g b second marks).set

-- it has lived through single accepted steps and acts alone, and so holds what those hold: masses + carry + taken − poured is what it was, the check accepts it,
-- no fluid cell touches an empty one, and the carry has changed by exactly the strays of those steps
pub record Balanced (s : Sides) (a b : Lent) : Type 0 where
  pub lived : Lived s a b
  pub holds : Holds s a b lived

-- ---- the indexes

-- an act changes no flag: after an accepted one the set loads with the index that it had
abbrev pub ActKeeps : Bool → Sides → ℕ → ℤ → Held → Type 0
ActKeeps pour s c amount a = Loads s a → act_answer pour s c amount a.set ≡ Done → Loads s (held (act_set pour c amount a.set) a.index)

-- a run that begins: however many steps it made, both sets then load with their indexes
pub record RunKeeps (steps : ℕ) (s : Sides) (g : Settings) (a b : Held) (marks : List ℕ) : Type 0 where
  pub first : run_entry steps s g a b marks ≡ Done → Loads s (run_first steps s g a b marks)
  pub second : run_entry steps s g a b marks ≡ Done → Loads s (run_second steps s g a b marks)
