-- `flumemirroring::turning::mirrored`: the outcome's definition, whatever is lent. Assumes nothing.
use Rattle.std.proofs.Common.{sym, ◌∙◌, arith}
use Rattle.grid.proofs.Handed.{handed-on}
use Rattle.flumemirroring.proofs.Answers.{accepted, refused, done}
use Rattle.flumemirroring.proofs.turning.mirrored.Goals as goal

pub returns-in_err-entered : goal.returns-in_err-entered
returns-in_err-entered c = rw (handed-on c.from_residual.result c.from_residual.ensures.1) (refused _ _ _ _ c.in_err-entered.ensures)

pub directions9-dirs-requires : goal.directions9-dirs-requires
directions9-dirs-requires c = (accepted _ _ _ _ (sym c.in_ok-entered.ensures)).axis-good

pub turn-requires : goal.turn-requires
turn-requires c = (accepted _ _ _ _ (sym c.in_ok-entered.ensures)).turnable _ c.directions9-dirs.ensures

pub copy_from_slice-requires : goal.copy_from_slice-requires
copy_from_slice-requires c = let r = accepted _ _ _ _ (sym c.in_ok-entered.ensures) in omega (arith, r.second-carry, r.first-carry)

pub returns : goal.returns
returns c = done _ _ _ _ (sym c.in_ok-entered.ensures) c.directions9-dirs.ensures c.turn.ensures c.copy_from_slice.ensures.after
