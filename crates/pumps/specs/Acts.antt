-- Pour and take: what each answers, and what each lent slice then holds, for every input. Assumes nothing.
use Rattle.std.specs.Prelude.{◌≡◌, Bool, ◌&&◌, cond, ℕ, eqb, ltb, ℤ, pos, ◌+ℤ◌, ◌-ℤ◌, get_or, set}
use Rattle.std.specs.Int.Signed.{le_z, lt_z}
use Rattle.lattice.specs.Lattice.{d3q19, density}
use Rattle.lattice.specs.Cell.{fill_of}
use Rattle.grid.specs.declared.Sides.{Sides}
use Rattle.grid.specs.Answer.{Answer, Done, refusal_number, refusal_place}
use Rattle.grid.specs.declared.refusals.Refusal.{Refusal}
use Rattle.grid.specs.Grid.{cells_of}
use Rattle.grid.specs.State.{Lent, lent, part_of}
use Rattle.grid.specs.Outcome.{or_refuse}
use Rattle.pumps.specs.Three.{number_in, three_answer}
use Rattle.grid.specs.declared.refusals.Refusal.TheVariants.{BadAmount, NotInterface, Outside}
use Rattle.std.specs.Prelude.{Result, Ok, Err}

-- ---- what was moved, or the refusal; the paper's number and place of each case, 0 0 if accepted, and what was moved, 0 beside a refusal

abbrev pub Acted : Type 0
Acted = Result ℤ Refusal

abbrev pub acted_number : Acted → ℕ
acted_number (Ok moved) = 0
acted_number (Err refusal) = refusal_number refusal

abbrev pub acted_place : Acted → ℕ
acted_place (Ok moved) = 0
acted_place (Err refusal) = refusal_place refusal

abbrev pub acted_moved : Acted → ℤ
acted_moved (Ok moved) = moved
acted_moved (Err refusal) = pos 0

-- ---- in numbers; `pour` tells the two acts apart

-- an amount of 1..589,824
abbrev pub amount_good : ℤ → Bool
amount_good amount = le_z (pos 1) amount && le_z amount (pos 589824)

-- what a take moves: the smaller of amount and mass, nothing if the mass is not positive
abbrev pub taken_of : ℤ → ℤ → ℤ
taken_of amount mass = cond (le_z mass (pos 0)) (pos 0) (cond (lt_z mass amount) mass amount)

-- what an act moves
unfoldable pub moved_of : Bool → ℤ → ℤ → ℤ
moved_of pour amount mass = cond pour amount (taken_of amount mass)

-- the mass after it
abbrev pub mass_of : Bool → ℤ → ℤ → ℤ
mass_of pour mass moved = cond pour (mass +ℤ moved) (mass -ℤ moved)

-- the total it counts into: poured 1, taken 2
abbrev pub counted_in : Bool → ℕ
counted_in pour = cond pour 1 2

-- 16: the amount is in range, the mass does not pass 2,359,296, the total does not pass 10^15
unfoldable pub act_good : Bool → ℤ → ℤ → ℤ → Bool
act_good pour amount mass total =
    amount_good amount && le_z (mass_of pour mass (moved_of pour amount mass)) (pos 2359296) && le_z (total +ℤ moved_of pour amount mass) (pos 1000000000000000)

-- ---- over a lent set

-- an answer that is no refusal lets the next one speak
abbrev pub and_then : Answer → Answer → Answer
and_then (Ok _) rest = rest
and_then (Err refusal) rest = Err refusal

-- tests 1, 2, 4, 5, 6, 13, 15, 16
unfoldable pub act_answer : Bool → Sides → ℕ → ℤ → Lent → Answer
act_answer pour s c amount a =
    and_then (three_answer s a)
    (or_refuse (ltb c (cells_of s)) Outside
    (or_refuse (eqb (get_or a.flags c 0) 1) (NotInterface c)
    (or_refuse (act_good pour amount (get_or a.masses c (pos 0)) (number_in a (counted_in pour))) BadAmount Done)))

-- the set after it: mass, fill and total; nothing else is written
unfoldable pub act_set : Bool → ℕ → ℤ → Lent → Lent
act_set pour c amount a =
    let m = get_or a.masses c (pos 0) in
    let t = moved_of pour amount m in
    lent a.flags
    a.parts
    (set a.masses c (mass_of pour m t))
    (set a.fills c (fill_of (mass_of pour m t) (density d3q19 (part_of a.parts c))))
    (set a.carry (counted_in pour) (number_in a (counted_in pour) +ℤ t))

-- by an answer: what was moved, or the refusal; the set after it, or the set as it was
abbrev pub acted_by : Answer → ℤ → Acted
acted_by (Ok _) moved = Ok moved
acted_by (Err refusal) moved = Err refusal

abbrev pub set_by : Answer → Lent → Lent → Lent
set_by (Ok _) after before = after
set_by (Err refusal) after before = before

pub record ActTold (pour : Bool) (s : Sides) (c : ℕ) (amount : ℤ) (a : Lent) (answer : Acted) (after : Lent) : Type 0 where
  pub answer-is : answer ≡ acted_by (act_answer pour s c amount a) (moved_of pour amount (get_or a.masses c (pos 0)))
  pub set_is : after ≡ set_by (act_answer pour s c amount a) (act_set pour c amount a) a

-- names every definition of this file: whoever unfolds this computes with all of them
unfoldable pub open-acts : Unit {0}
unfolding moved_of act_good act_answer act_set
open-acts = tt
