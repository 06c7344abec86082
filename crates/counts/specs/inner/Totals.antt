-- The total that a line tells, over any masses and any carry. The program's own promise does not cite this file. Assumes nothing.
use Rattle.std.specs.Prelude.{cond, List, ℤ, pos, ◌+ℤ◌}
use Rattle.lattice.specs.Cell.{carry_good}
use Rattle.counts.specs.Counts.{mass_sum}

-- the total where the carry is in its range, as that of an accepted record and of a step is
unfoldable pub total_by : List ℤ → ℤ → ℤ
total_by masses carry = cond (carry_good carry) (mass_sum masses +ℤ carry) (pos 0)
