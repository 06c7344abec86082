-- What the turns of a run ask and leave: a step goes from one set to the other, and the next one back. Assumes nothing.
use Rattle.std.specs.Prelude.{◌≡◌, Bool, cond, List, ℕ, replicate}
use Rattle.lattice.specs.declared.Settings.{Settings}
use Rattle.grid.specs.declared.Sides.{Sides}
use Rattle.grid.specs.Answer.{Answer}
use Rattle.grid.specs.Grid.{cells_of}
use Rattle.grid.specs.State.{Lent}
use Rattle.grid.specs.Outcome.{ran}
use Rattle.grid.specs.inner.Halfway.{Advanced}

-- the set that holds the state reached, and the other one, which the next turn writes
abbrev pub here : Bool → Lent → Lent → Lent
here back a b = cond back b a

abbrev pub there : Bool → Lent → Lent → Lent
there back a b = cond back a b

-- one turn: a step from here to there, and nothing written here
pub record Crossed (s : Sides) (g : Settings) (back : Bool) (a b : Lent) (answer : Answer) (first second : Lent) (after : List ℕ) : Type 0 where
  pub moved : Advanced s g (here back a b) answer (there back first second) after
  pub kept : here back first second ≡ here back a b

-- both sets hold what was here
pub record Evened (back : Bool) (a b first second : Lent) : Type 0 where
  pub first-is : first ≡ here back a b
  pub second_is : second ≡ here back a b

-- the run of a set that passed tests 1 to 6: the definition's count, stop and state, the state in both sets, no mark left
pub record Went (steps : ℕ) (s : Sides) (g : Settings) (a : Lent) (marks : List ℕ) (count : ℕ) (answer : Answer) (first second : Lent) (after : List ℕ) : Type 0 where
  pub count-is : count ≡ (ran s g marks steps a).count
  pub answer-is : answer ≡ (ran s g marks steps a).stop
  pub first-is : first ≡ (ran s g marks steps a).reached
  pub second_is : second ≡ (ran s g marks steps a).reached
  pub marks-are : after ≡ replicate (cells_of s) 0
