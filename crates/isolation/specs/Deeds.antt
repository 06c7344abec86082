-- What a designer does with their own scheme, what is answered, and what the scheme then is: a step, a run, an amount poured or taken, a reading. Each is
-- join, the call on the grid, and part; each takes the map and the own scheme and nothing of the other's. Assumes nothing.
use Rattle.std.specs.Prelude.{Bool, true, List, [], ℕ, ℤ, pos, get_or}
use Rattle.lattice.specs.declared.Settings.{Settings}
use Rattle.grid.specs.declared.Sides.{Sides}
use Rattle.grid.specs.Answer.{Answer}
use Rattle.grid.specs.State.{Lent}
use Rattle.grid.specs.Outcome.{step_answer, step_second, run_count, run_answer, run_first}
use Rattle.pumps.specs.Acts.{Acted}
use Rattle.pumps.specs.Three.{head_of}
use Rattle.pumps.specs.Acts.{and_then, moved_of, act_answer, act_set, acted_by}
use Rattle.pumps.specs.Demands.{totalled}
use Rattle.schemes.specs.Scheme.{joined, parted, tested}
use Rattle.schemes.specs.Outcome.{if_done}

-- a step with settings, a second set and marks; a run of so many steps with the same; an amount poured into a cell (true), or taken from it; a reading, that
-- is whatever is answered from the grid alone, in numbers
pub data Deed : Type 0 where
  step : Settings → Lent → List ℕ → Deed
  run : ℕ → Settings → Lent → List ℕ → Deed
  pump : Bool → ℕ → ℤ → Deed
  look : (Lent → List ℤ) → Deed

-- what is answered to a step; to a run, with the steps that were accepted; to a pour or take; to a reading, or that the scheme is refused; to a question
-- for a wall change
pub data Reply : Type 0 where
  stepped : Answer → Reply
  ran : ℕ → Answer → Reply
  pumped : Acted → Reply
  looked : Answer → List ℤ → Reply
  answered : Answer → Reply

-- the grid of a scheme as the base is lent it: the first number as its carry
abbrev pub base_of : Sides → List ℕ → Lent → Lent
base_of s map a = head_of (joined s map a)

-- the tests of the scheme, then the call's own
unfoldable pub step_told : Sides → List ℕ → Lent → Settings → Lent → List ℕ → Answer
step_told s map a g second marks = and_then (tested s map a true) (step_answer s g (base_of s map a) second marks)

unfoldable pub run_told : Sides → List ℕ → Lent → ℕ → Settings → Lent → List ℕ → Answer
run_told s map a steps g second marks = and_then (tested s map a true) (run_answer steps s g (base_of s map a) second marks)

unfoldable pub pump_told : Sides → List ℕ → Lent → Bool → ℕ → ℤ → Answer
pump_told s map a pour c amount = and_then (tested s map a true) (act_answer pour s c amount (joined s map a))

unfoldable pub reply : Sides → List ℕ → Lent → Deed → Reply
reply s map a (step g second marks) = stepped (step_told s map a g second marks)
reply s map a (run steps g second marks) = ran (if_done (tested s map a true) (run_count steps s g (base_of s map a) second marks) 0) (run_told s map a steps g second marks)
reply s map a (pump pour c amount) = pumped (acted_by (pump_told s map a pour c amount) (moved_of pour amount (get_or a.masses c (pos 0))))
reply s map a (look f) = looked (tested s map a true) (if_done (tested s map a true) (f (joined s map a)) [])

-- the scheme after it: parted from the next state, from the state that a run reached, from the set after an act; as it was beside a refusal
unfoldable pub done : Sides → List ℕ → Lent → Deed → Lent
done s map a (step g second marks) = if_done (step_told s map a g second marks) (parted s (totalled (step_second s g (base_of s map a) second marks) (joined s map a))) a
done s map a (run steps g second marks) = if_done (tested s map a true) (parted s (totalled (run_first steps s g (base_of s map a) second marks) (joined s map a))) a
done s map a (pump pour c amount) = if_done (pump_told s map a pour c amount) (parted s (act_set pour c amount (joined s map a))) a
done s map a (look f) = a
