-- What the turns of a flume's run ask and leave: a step goes from one set to the other, and the next one back. Assumes nothing.
use Rattle.std.specs.Prelude.{◌≡◌, Bool, List, ℕ, replicate}
use Rattle.grid.specs.Answer.{Answer}
use Rattle.grid.specs.State.{Lent}
use Rattle.grid.specs.Ground.{ran_on}
use Rattle.run.specs.inner.Turns.{here, there}
use Rattle.flume.specs.declared.FlumeSides.{FlumeSides}
use Rattle.flume.specs.declared.FlumeSettings.{FlumeSettings}
use Rattle.flume.specs.Flume.{flume_cells, flume_ground, level_settings}
use Rattle.flumestep.specs.inner.Advanced.{FlumeAdvanced}

-- one turn: a step from here to there, and nothing written here
pub record FlumeCrossed (s : FlumeSides) (g : FlumeSettings) (back : Bool) (a b : Lent) (answer : Answer) (first second : Lent) (after : List ℕ) : Type 0 where
  pub moved : FlumeAdvanced s g (here back a b) answer (there back first second) after
  pub kept : here back first second ≡ here back a b

-- the run of a set that passed tests 1 to 6: the definition's count, stop and state, the state in both sets, no mark left
pub record FlumeWent (steps : ℕ) (s : FlumeSides) (g : FlumeSettings) (a : Lent) (marks : List ℕ) (count : ℕ) (answer : Answer) (first second : Lent) (after : List ℕ) : Type 0 where
  pub count-is : count ≡ (ran_on (flume_ground s) (level_settings g) marks steps a).count
  pub answer-is : answer ≡ (ran_on (flume_ground s) (level_settings g) marks steps a).stop
  pub first-is : first ≡ (ran_on (flume_ground s) (level_settings g) marks steps a).reached
  pub second_is : second ≡ (ran_on (flume_ground s) (level_settings g) marks steps a).reached
  pub marks-are : after ≡ replicate (flume_cells s) 0
