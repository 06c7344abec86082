-- `numerals::number::negative`: a magnitude below 10^15 by its complement. Assumes nothing.
use Rattle.std.proofs.Common.{Some, ap, ◌∙◌, arith}
use Rattle.numerals.specs.Number.{negated}
use Rattle.numerals.proofs.Digits.{plain-lt}
use Rattle.numerals.proofs.Signs.{half, minus}
use Rattle.numerals.proofs.number.negative.Goals as goal

pub overflow_cast-result : goal.overflow_cast-result
overflow_cast-result c = half (omega (arith, plain-lt _ c.in_ok-n.ensures))

pub returns : goal.returns
returns c = ap Some (minus _ (omega arith) (plain-lt _ c.in_ok-n.ensures)) ∙ ap negated c.in_ok-n.ensures
