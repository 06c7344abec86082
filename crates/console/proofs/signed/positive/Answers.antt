-- `console::signed::positive`: a magnitude below 2^63, cast. Assumes nothing.
use Rattle.std.proofs.Common.{Some, ap, ◌∙◌}
use Rattle.console.specs.Signed.{kept}
use Rattle.console.proofs.Decimals.{at_most}
use Rattle.console.proofs.Amounts.{half, plain}
use Rattle.console.proofs.signed.positive.Goals as goal

pub overflow_cast-result : goal.overflow_cast-result
overflow_cast-result c = half (at_most _ _ c.in_ok-n.ensures)

pub returns : goal.returns
returns c = ap Some (plain (at_most _ _ c.in_ok-n.ensures)) ∙ ap kept c.in_ok-n.ensures
