use mir.Facts.{to_z-of_z}
use Rattle.std.proofs.Common.{sym, ap, ◌∙◌}
use Rattle.solids.specs.inner.Walls.{height_of}
use Rattle.solids.proofs.Heights.{rise-stop, rise-end}
use Rattle.solids.proofs.walls.walls_of.Goals as goal

pub returns-then-not-solid : goal.returns-then-not-solid
returns-then-not-solid c = rise-stop c.loop-z.invariant c.loop-z-test.true (sym c.if-not-solid.ensures) ∙ ap (height_of _ _) (to_z-of_z c.ranges.v)

pub returns : goal.returns
returns c = rise-end c.loop-z.invariant c.loop-z-test.false ∙ ap (height_of _ _) (to_z-of_z c.ranges.v)
