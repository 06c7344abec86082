-- Demand 3 over accepted steps and acts in any order: total plus taken less poured never changes, the check goes on accepting, the carry changes in steps
-- alone, by exactly the strays. Assumes nothing.
use Rattle.std.specs.Prelude.{◌≡◌, Bool, List, ℕ, ℤ, pos, ◌+ℤ◌, ◌-ℤ◌}
use Rattle.lattice.specs.declared.Settings.{Settings}
use Rattle.grid.specs.declared.Sides.{Sides}
use Rattle.grid.specs.Answer.{Done}
use Rattle.grid.specs.Grid.{grid_of}
use Rattle.grid.specs.State.{Lent, state_of}
use Rattle.grid.specs.Outcome.{scene_of, step_answer, step_second}
use Rattle.grid.specs.Demands.{Closed, strayed, water_of}
use Rattle.pumps.specs.Three.{number_in, head_of, with_totals, three_answer}
use Rattle.pumps.specs.Acts.{act_answer, act_set}

-- masses + carry + taken − poured
unfoldable pub balance : Sides → Lent → ℤ
balance s a = water_of s a +ℤ number_in a 2 -ℤ number_in a 1

-- what an accepted act keeps
pub record Kept (s : Sides) (a b : Lent) : Type 0 where
  pub balance-kept : balance s b ≡ balance s a
  pub still-good : three_answer s b ≡ Done
  pub carry-kept : number_in b 0 ≡ number_in a 0
  pub flags-kept : b.flags ≡ a.flags
  pub parts-kept : b.parts ≡ a.parts

-- ---- steps between the acts: the base steps the set with its first number as the carry, and poured and taken stay beside it
abbrev pub totalled : Lent → Lent → Lent
totalled d a = with_totals d (number_in a 1) (number_in a 2)

-- reached by accepted steps and acts in any order
pub data Lived (s : Sides) (a : Lent) : Lent → Type 0 where
  start : Lived s a a
  acted : {b : Lent} → Lived s a b → (pour : Bool) (c : ℕ) (amount : ℤ) → act_answer pour s c amount b ≡ Done → Lived s a (act_set pour c amount b)
  stepped : {b : Lent} → Lived s a b → (g : Settings) (second : Lent) (marks : List ℕ) → step_answer s g (head_of b) second marks ≡ Done
      → Lived s a (totalled (step_second s g (head_of b) second marks) b)

-- what has strayed into the carry on the way
abbrev pub strayed_in : {s : Sides} {a b : Lent} → Lived s a b → ℤ
strayed_in start = pos 0
strayed_in (acted r pour c amount accepted) = strayed_in r
strayed_in {s = s} (stepped {b} r g second marks accepted) = strayed_in r +ℤ strayed (scene_of s g (head_of b))

pub record Holds (s : Sides) (a b : Lent) (r : Lived s a b) : Type 0 where
  pub balance-same : balance s b ≡ balance s a
  pub still-good : three_answer s b ≡ Done
  pub closed : Closed 18 (grid_of s) (state_of 18 b).flag
  pub carry-is : number_in b 0 ≡ number_in a 0 +ℤ strayed_in r

-- names every definition of this file: whoever unfolds this computes with all of them
unfoldable pub open-demands : Unit {0}
unfolding balance
open-demands = tt
