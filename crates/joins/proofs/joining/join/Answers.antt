-- `joins::joining::join`: the outcome's definition, whatever is lent. Assumes nothing.
use Rattle.std.proofs.Common.{sym, ◌∙◌}
use Rattle.grid.proofs.Handed.{handed-on}
use Rattle.pumps.proofs.Checked.{head-sized}
use Rattle.schemes.proofs.Answers.{join-refused, join-scheme, join-done}
use Rattle.joins.proofs.joining.join.Goals as goal

pub returns-in_err-entered : goal.returns-in_err-entered
returns-in_err-entered c = rw (handed-on c.from_residual.result c.from_residual.ensures.1) (join-refused _ _ _ _ c.in_err-entered.ensures)

pub fill-requires : goal.fill-requires
fill-requires c =
    let z = join-scheme _ _ _ _ (sym c.in_ok-entered.ensures) in
    ((head-sized _ _ z.0.sized).flags ∙ sym z.0.map-size, z.1)

pub returns : goal.returns
returns c = join-done _ _ _ _ (sym c.in_ok-entered.ensures) c.fill.ensures
