-- What a state's line counts. Assumes nothing.
use Rattle.std.specs.Prelude.{ℕ, List, eqb, ℤ, pos, ◌+ℤ◌, length, get_or}
use Rattle.whole.specs.Fold.{count, sum}
use Rattle.grid.specs.State.{Lent}
use Rattle.counts.specs.declared.counting.Line.{Line}

-- the cells of a kind
unfoldable pub cells_with : ℕ → List ℕ → ℕ
cells_with wanted flags = count (length flags) (λ c. eqb (get_or flags c 0) wanted)

-- the masses together
unfoldable pub mass_sum : List ℤ → ℤ
mass_sum masses = sum (length masses) (λ c. get_or masses c (pos 0))

-- the fields of a line: fluid, interface, empty and wall cells, total with the carry, carry
abbrev pub line_with : List ℕ → ℤ → ℤ → Line
line_with flags total carry = record {
  fluid = cells_with 2 flags;
  interface = cells_with 1 flags;
  empty = cells_with 0 flags;
  wall = cells_with 3 flags;
  total = total;
  carry = carry;
}

-- the line of a state
abbrev pub line_of : Lent → Line
line_of a = let carry = get_or a.carry 0 (pos 0) in line_with a.flags (mass_sum a.masses +ℤ carry) carry

-- names every definition of this file: whoever unfolds this computes with all of them
unfoldable pub open-counts : Unit {0}
unfolding cells_with mass_sum
open-counts = tt
