-- `numerals::number::positive`: a magnitude below 10^15, cast. Assumes nothing.
use Rattle.std.proofs.Common.{Some, ap, ◌∙◌}
use Rattle.numerals.specs.Number.{kept}
use Rattle.numerals.proofs.Digits.{plain-lt}
use Rattle.numerals.proofs.Signs.{half, plainly}
use Rattle.numerals.proofs.number.positive.Goals as goal

pub overflow_cast-result : goal.overflow_cast-result
overflow_cast-result c = half (plain-lt _ c.in_ok-n.ensures)

pub returns : goal.returns
returns c = ap Some (plainly (plain-lt _ c.in_ok-n.ensures)) ∙ ap kept c.in_ok-n.ensures
