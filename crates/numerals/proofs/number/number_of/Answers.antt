-- `numerals::number::number_of`: the first byte tells whether a minus stands before the digits. Assumes nothing.
use mathlib.Core.Path.{◌∙◌}
use native.Mathlib.Omega.{arith}
use Rattle.numerals.proofs.Signs.{signed-none, signed-minus, signed-plain}
use Rattle.numerals.proofs.number.number_of.Goals as goal

pub returns-then-w-eq0 : goal.returns-then-w-eq0
returns-then-w-eq0 c = signed-none _ c.if-w-eq0.true

pub returns-then-w-eq45 : goal.returns-then-w-eq45
returns-then-w-eq45 c = c.negative.ensures ∙ signed-minus _ (omega arith) c.if-w-eq45.true

pub returns : goal.returns
returns c = c.positive.ensures ∙ signed-plain _ (omega arith) c.if-w-eq45.false
