-- A lent set whose carry slice holds three numbers, carry, poured and taken, and its check. Assumes nothing.
use Rattle.std.specs.Prelude.{Bool, ◌&&◌, [], ◌∷◌, ℕ, ◌*◌, eqb, ℤ, pos, length, get_or, take}
use Rattle.std.specs.Int.Signed.{le_z}
use Rattle.lattice.specs.Lattice.{d3q19}
use Rattle.grid.specs.declared.Sides.{Sides}
use Rattle.grid.specs.Answer.{Answer}
use Rattle.grid.specs.Answer.{Done}
use Rattle.grid.specs.Grid.{cells_of, sides_good, grid_of}
use Rattle.grid.specs.State.{Lent, lent, state_of}
use Rattle.grid.specs.Outcome.{or_refuse, good_answer}
use Rattle.grid.specs.declared.refusals.Refusal.TheVariants.{BadLength, BadSides, BadState}

-- the slice's numbers: 0 the carry, 1 poured, 2 taken
abbrev pub number_in : Lent → ℕ → ℤ
number_in a k = get_or a.carry k (pos 0)

-- what the base is lent of such a set: the first number as its carry
abbrev pub head_of : Lent → Lent
head_of a = lent a.flags a.parts a.masses a.fills (take 1 a.carry)

-- a set of the base with poured and taken beside its carry
abbrev pub with_totals : Lent → ℤ → ℤ → Lent
with_totals d poured taken = lent d.flags d.parts d.masses d.fills (get_or d.carry 0 (pos 0) ∷ poured ∷ taken ∷ [])

-- a total lies in 0..10^15; both do
abbrev pub total_good : ℤ → Bool
total_good t = le_z (pos 0) t && le_z t (pos 1000000000000000)

abbrev pub totals_good : ℤ → ℤ → Bool
totals_good poured taken = total_good poured && total_good taken

-- N flags, 19N parts, N masses, N fills, and three numbers
unfoldable pub three_lengths : ℕ → Lent → Bool
three_lengths n a =
    eqb (length a.carry) 3 && (eqb (length a.flags) n && eqb (length a.parts) (19 * n) && eqb (length a.masses) n && eqb (length a.fills) n)

-- tests 4, 5, 6: the base's, of which the carry is the slice's first number; then poured and taken, 6 at N
abbrev pub three_good : Sides → Lent → Answer → Answer
three_good s a rest = good_answer d3q19 (grid_of s) (state_of 18 a) (or_refuse (totals_good (number_in a 1) (number_in a 2)) (BadState (cells_of s)) rest)

-- tests 1, 2, 4, 5, 6
unfoldable pub three_answer : Sides → Lent → Answer
three_answer s a = or_refuse (sides_good s) BadSides (or_refuse (three_lengths (cells_of s) a) BadLength (three_good s a Done))

-- names every definition of this file: whoever unfolds this computes with all of them
unfoldable pub open-three : Unit {0}
unfolding three_lengths three_answer
open-three = tt
