-- `walls::changes::wall_remove`: the outcome's definition, whatever is lent. Assumes nothing.
use Rattle.std.proofs.Common.{sym, arith}
use Rattle.grid.proofs.Handed.{handed-on}
use Rattle.schemes.proofs.Tests.{tells}
use Rattle.walls.proofs.Answers.{change-refused, change-done}
use Rattle.walls.proofs.Kept.{granted}
use Rattle.walls.proofs.changes.wall_remove.Goals as goal

pub returns-in_err-answered : goal.returns-in_err-answered
returns-in_err-answered c = rw (handed-on c.from_residual.result c.from_residual.ensures.1) (change-refused _ _ _ _ _ _ c.in_err-answered.ensures)

pub bounds-map-c : goal.bounds-map-c
bounds-map-c c =
    let g = granted _ _ _ _ _ _ (sym c.in_ok-answered.ensures) in
    omega (arith, (tells _ _ _ _ g.own).0.map-size, g.cell)

pub returns : goal.returns
returns c = change-done _ _ _ _ _ _ (sym c.in_ok-answered.ensures)
