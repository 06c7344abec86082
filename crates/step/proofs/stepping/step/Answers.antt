-- `step::stepping::step`: the outcome's definition, whatever is lent. Assumes nothing.
use Rattle.std.proofs.Common.{sym}
use Rattle.grid.proofs.Handed.{handed-on}
use Rattle.step.proofs.Entrance.{refused, may-step, stepped}
use Rattle.step.proofs.stepping.step.Goals as goal

pub returns-in_err-entered : goal.returns-in_err-entered
returns-in_err-entered c = rw (handed-on c.from_residual.result c.from_residual.ensures.1) (refused _ _ _ _ _ c.in_err-entered.ensures)

pub advanced-requires : goal.advanced-requires
advanced-requires c = may-step _ _ _ _ _ (sym c.in_ok-entered.ensures)

pub returns : goal.returns
returns c = stepped _ _ _ _ _ (sym c.in_ok-entered.ensures) c.advanced.ensures
