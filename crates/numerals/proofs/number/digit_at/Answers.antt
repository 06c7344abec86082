-- `numerals::number::digit_at`: 0 past the end. Assumes nothing.
use native.Mathlib.Omega.{arith}
use Rattle.numerals.proofs.Digits.{none-there, low-there, digit-there}
use Rattle.numerals.proofs.number.digit_at.Goals as goal

pub returns-then-w-i : goal.returns-then-w-i
returns-then-w-i c = none-there _ _ c.if-w-i.true

pub returns-then-b-lt48 : goal.returns-then-b-lt48
returns-then-b-lt48 c = low-there _ _ c.if-w-i.false c.if-b-lt48.true

pub overflow_cast-result : goal.overflow_cast-result
overflow_cast-result c = omega (arith, c.shared_slice_known-1.given c.args.i)

pub returns : goal.returns
returns c = digit-there _ _ c.if-w-i.false
