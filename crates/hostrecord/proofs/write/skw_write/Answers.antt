-- `hostrecord::write::skw_write`: the writer's own promise, its answer told as number, place and length. Assumes nothing.
use mathlib.Core.Bool.{false}
use mathlib.Core.Path.{refl}
use Rattle.host.proofs.Returned.{settings-back}
use Rattle.hostrecord.proofs.Returned.{site-back}
use Rattle.hostrecord.proofs.Told.{write-told}
use Rattle.hostrecord.proofs.write.skw_write.Goals as goal

pub returns-in-Ok : goal.returns-in-Ok
returns-in-Ok c =
    write-told (settings-back false c.args.p c.args.gx c.args.gy c.args.gz c.ranges.p c.ranges.gx c.ranges.gy c.ranges.gz) (site-back c.args.edge c.args.ox c.args.oy c.args.oz c.ranges.edge c.ranges.ox c.ranges.oy c.ranges.oz)
    c.in-Ok.ensures refl refl refl

pub returns-in-Err : goal.returns-in-Err
returns-in-Err c =
    write-told (settings-back false c.args.p c.args.gx c.args.gy c.args.gz c.ranges.p c.ranges.gx c.ranges.gy c.ranges.gz) (site-back c.args.edge c.args.ox c.args.oy c.args.oz c.ranges.edge c.ranges.ox c.ranges.oy c.ranges.oz)
    c.in-Err.ensures c.number.ensures c.place.ensures refl
