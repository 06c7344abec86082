-- `hostheights::depths_write::skw_depths_write`: the writer's own promise, its answer told as number, place and length. Assumes nothing.
use mathlib.Core.Path.{refl}
use Rattle.hostheights.proofs.Depths.{corner-back, depths-told}
use Rattle.hostheights.proofs.depths_write.skw_depths_write.Goals as goal

pub returns-in-Ok : goal.returns-in-Ok
returns-in-Ok c = depths-told (corner-back c.args.edge c.args.ox c.args.oy c.ranges.edge c.ranges.ox c.ranges.oy) c.in-Ok.ensures refl refl refl

pub returns-in-Err : goal.returns-in-Err
returns-in-Err c = depths-told (corner-back c.args.edge c.args.ox c.args.oy c.ranges.edge c.ranges.ox c.ranges.oy) c.in-Err.ensures c.number.ensures c.place.ensures refl
