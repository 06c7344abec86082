-- What a wall asked for and a wall taken out answer, and what the map then holds, for every input. `a` is the asker's scheme, `b` the other's.
-- Assumes nothing.
use Rattle.std.specs.Prelude.{ℕ, Bool, true, ◌&&◌, ◌||◌, not, cond, List, ltb, eqb, set}
use Rattle.whole.specs.Fold.{any_dir}
use Rattle.grid.specs.declared.Sides.{Sides}
use Rattle.grid.specs.Answer.{Answer}
use Rattle.grid.specs.Answer.{Done}
use Rattle.grid.specs.Grid.{cells_of, grid_of}
use Rattle.grid.specs.State.{Lent}
use Rattle.grid.specs.Outcome.{or_refuse}
use Rattle.pumps.specs.Acts.{and_then}
use Rattle.schemes.specs.Scheme.{wall_at, own_at, tested}
use Rattle.schemes.specs.Outcome.{if_done}
use Rattle.grid.specs.declared.refusals.Refusal.TheVariants.{BadChange, InTheWay, Outside}

-- ---- `add` is true for a wall asked for, false for one taken out

-- the map's byte that is asked for
abbrev pub wanted : Bool → ℕ
wanted add = cond add 1 0

-- a scheme's water is in the way: of a wall if the cell is not empty, of taking one out if a neighbour is fluid
unfoldable pub in_way : Sides → List ℕ → Bool → ℕ → Bool
in_way s own add c = cond add (not (eqb (own_at own c) 0)) (any_dir 18 (λ i. eqb (own_at own ((grid_of s).near c i)) 2))

-- 17: an inner cell that is not already as asked
unfoldable pub may_change : Sides → List ℕ → Bool → ℕ → Bool
may_change s map add c = not ((grid_of s).outer c) && not (eqb (wall_at map c) (wanted add))

-- 13 and 17, then `rest`
unfoldable pub placed : Sides → List ℕ → Bool → ℕ → Answer → Answer
placed s map add c rest = or_refuse (ltb c (cells_of s)) Outside (or_refuse (may_change s map add c) (BadChange c) rest)

-- 18: the asker's water in the way, or the other's
unfoldable pub clear : Sides → Lent → Lent → Bool → ℕ → Bool
clear s a b add c = not (in_way s a.flags add c || in_way s b.flags add c)

-- the asker's tests, the other's, 13, 17, 18
unfoldable pub wall_answer : Sides → List ℕ → Lent → Lent → Bool → ℕ → Answer
wall_answer s map a b add c =
    and_then (tested s map a true) (and_then (tested s map b true) (placed s map add c (or_refuse (clear s a b add c) (InTheWay c) Done)))

-- only the map's byte of the cell is written
unfoldable pub wall_map : Sides → List ℕ → Lent → Lent → Bool → ℕ → List ℕ
wall_map s map a b add c = if_done (wall_answer s map a b add c) (set map c (wanted add)) map

-- the answer if nobody else is there
unfoldable pub alone_answer : Sides → List ℕ → Lent → Bool → ℕ → Answer
alone_answer s map a add c = and_then (tested s map a true) (placed s map add c (or_refuse (not (in_way s a.flags add c)) (InTheWay c) Done))

-- names every definition of this file: whoever unfolds this computes with all of them
unfoldable pub open-outcome : Unit {0}
unfolding in_way may_change placed clear wall_answer wall_map alone_answer
open-outcome = tt
