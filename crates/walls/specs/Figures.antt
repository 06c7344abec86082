-- The case of the figures: 5 by 3 by 3, walls outside and at 22; scheme A has an interface cell at 21, scheme B a fluid cell at 23. Assumes nothing.
use Rattle.std.specs.Prelude.{◌≡◌, ℕ, true, false, ◌||◌, cond, List, eqb, leb, ℤ, pos}
use Rattle.whole.specs.Fold.{tab}
use Rattle.grid.specs.declared.Sides.{Sides}
use Rattle.grid.specs.Answer.{Done}
use Rattle.grid.specs.Grid.{grid_of}
use Rattle.grid.specs.State.{Lent, lent, lent_of}
use Rattle.pumps.specs.Three.{with_totals}
use Rattle.schemes.specs.Scheme.{tested}
use Rattle.walls.specs.Outcome.{wall_answer}
use Rattle.grid.specs.declared.refusals.Refusal.TheVariants.{BadChange, BadFlag, BadState, InTheWay, Outside}
use Rattle.std.specs.Prelude.{Err}

abbrev pub sides : Sides
sides = record { nx = 5; ny = 3; nz = 3 }

abbrev pub walls : List ℕ
walls = tab 45 (λ c. cond ((grid_of sides).outer c || eqb c 22) 1 0)

-- parts of a cell at rest
abbrev pub at_rest : ℕ → ℤ
at_rest k = cond (eqb k 0) (pos 196608) (cond (leb k 6) (pos 32768) (pos 16384))

-- one liquid cell at rest, with a flag, a mass and a fill
abbrev pub drop : ℕ → ℕ → ℤ → ℕ → Lent
drop cell flag mass fill =
    with_totals (lent_of 18 45 (record {
      flag = λ c. cond (eqb c cell) flag 0;
      part = λ c k. cond (eqb c cell) (at_rest k) (pos 0);
      mass = λ c. cond (eqb c cell) mass (pos 0);
      fill = λ c. cond (eqb c cell) fill 0;
      carry = pos 0;
    })) (pos 0) (pos 0)

abbrev pub scheme_a : Lent
scheme_a = drop 21 1 (pos 294912) 32768

abbrev pub scheme_b : Lent
scheme_b = drop 23 2 (pos 589824) 65536

-- no liquid cell, but an own flag at cell 0
abbrev pub flagged : ℕ → Lent
flagged f = lent (tab 45 (λ c. cond (eqb c 0) f 0)) (tab 855 (λ c. pos 0)) (tab 45 (λ c. pos 0)) (tab 45 (λ c. 0)) (tab 3 (λ c. pos 0))

-- no water at all
abbrev pub scheme_dry : Lent
scheme_dry = flagged 0

-- what A is answered beside x, however x may be: its own water in the way, and what is not to be changed
pub record Whoever (x : Lent) : Type 0 where
  pub wall-21 : wall_answer sides walls scheme_a x true 21 ≡ Err (InTheWay 21)
  pub wall-22 : wall_answer sides walls scheme_a x true 22 ≡ Err (BadChange 22)
  pub wall-45 : wall_answer sides walls scheme_a x true 45 ≡ Err Outside
  pub out-0 : wall_answer sides walls scheme_a x false 0 ≡ Err (BadChange 0)
  pub out-23 : wall_answer sides walls scheme_a x false 23 ≡ Err (BadChange 23)

pub record Figures : Type 0 where
  pub beside-B : Whoever scheme_b
  pub B-wall-23 : wall_answer sides walls scheme_a scheme_b true 23 ≡ Err (InTheWay 23)
  pub B-out-22 : wall_answer sides walls scheme_a scheme_b false 22 ≡ Err (InTheWay 22)
  -- an outer cell beside B's fluid: 17 comes before 18
  pub B-out-24 : wall_answer sides walls scheme_a scheme_b false 24 ≡ Err (BadChange 24)
  pub beside-dry : Whoever scheme_dry
  pub dry-wall-23 : wall_answer sides walls scheme_a scheme_dry true 23 ≡ Done
  pub dry-out-22 : wall_answer sides walls scheme_a scheme_dry false 22 ≡ Done
  pub own-flag-3 : tested sides walls (flagged 3) true ≡ Err (BadFlag 0)
  pub own-flag-1 : tested sides walls (flagged 1) true ≡ Err (BadState 0)
