-- `numerals::number::value`: the number that the digits so far spell. Assumes nothing.
use Rattle.std.proofs.Common.{◌≡◌}
use Rattle.numerals.specs.Number.{value_to}
use Rattle.numerals.proofs.number.value.Given as goal

abbrev pub invariant-loop-i : goal.invariant-loop-i
invariant-loop-i l = l.v ≡ value_to l.w l.i
