-- `console::signed::negative`: a magnitude up to 2^63 by its complement, which fits. Assumes nothing.
use Rattle.std.proofs.Common.{Some, ap, ◌∙◌, arith}
use Rattle.console.specs.Signed.{negated}
use Rattle.console.proofs.Decimals.{at_most}
use Rattle.console.proofs.Amounts.{half, minus}
use Rattle.console.proofs.signed.negative.Goals as goal

pub overflow_cast-result : goal.overflow_cast-result
overflow_cast-result c = half (omega (arith, at_most _ _ c.in_ok-n.ensures))

pub returns : goal.returns
returns c = ap Some (minus _ (omega arith) (at_most _ _ c.in_ok-n.ensures)) ∙ ap negated c.in_ok-n.ensures
