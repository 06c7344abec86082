-- `console::signed::amount`: the first byte tells whether a minus stands before the digits. Assumes nothing.
use mathlib.Core.Path.{◌∙◌}
use native.Mathlib.Omega.{arith}
use Rattle.console.proofs.Amounts.{signed-none, signed-minus, signed-plain}
use Rattle.console.proofs.signed.amount.Goals as goal

pub returns-then-text-eq0 : goal.returns-then-text-eq0
returns-then-text-eq0 c = signed-none _ c.if-text-eq0.true

pub returns-then-text-eq45 : goal.returns-then-text-eq45
returns-then-text-eq45 c = c.negative.ensures ∙ signed-minus _ (omega arith) c.if-text-eq45.true

pub returns : goal.returns
returns c = c.positive.ensures ∙ signed-plain _ (omega arith) c.if-text-eq45.false
