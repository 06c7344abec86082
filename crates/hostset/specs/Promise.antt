-- What the calls on one set promise, for every input: number and place of the layer's outcome, the values, and every lent slice. Assumes nothing.
use Rattle.std.specs.Prelude.{◌≡◌, Bool, ℕ, ℤ, pos, get_or}
use Rattle.grid.specs.declared.Sides.{Sides}
use Rattle.grid.specs.State.{Lent}
use Rattle.grid.specs.Outcome.{number_of, place_of}
use Rattle.pumps.specs.Three.{three_answer}
use Rattle.pumps.specs.Acts.{acted_number, acted_place, acted_moved, moved_of, act_answer, act_set, acted_by, set_by}
use Rattle.index.specs.Outcome.{load_answer}
use Rattle.index.specs.Held.{Held}

-- the check: number and place, 0 0 if accepted
pub record CheckTold (s : Sides) (a : Lent) (number place : ℕ) : Type 0 where
  pub number_is : number ≡ number_of (three_answer s a)
  pub place_is : place ≡ place_of (three_answer s a)

-- loading: number and place, 0 0 if accepted
pub record LoadTold (s : Sides) (a : Held) (number place : ℕ) : Type 0 where
  pub number_is : number ≡ number_of (load_answer s a.set a.index)
  pub place_is : place ≡ place_of (load_answer s a.set a.index)

-- pour and take: number, place and what was moved, 0 beside a refusal, and the set after it
pub record ActDone (pour : Bool) (s : Sides) (c : ℕ) (amount : ℤ) (a : Lent) (number place : ℕ) (moved : ℤ) (after : Lent) : Type 0 where
  pub number_is : number ≡ acted_number (acted_by (act_answer pour s c amount a) (moved_of pour amount (get_or a.masses c (pos 0))))
  pub place_is : place ≡ acted_place (acted_by (act_answer pour s c amount a) (moved_of pour amount (get_or a.masses c (pos 0))))
  pub moved-is : moved ≡ acted_moved (acted_by (act_answer pour s c amount a) (moved_of pour amount (get_or a.masses c (pos 0))))
  pub set_is : after ≡ set_by (act_answer pour s c amount a) (act_set pour c amount a) a
