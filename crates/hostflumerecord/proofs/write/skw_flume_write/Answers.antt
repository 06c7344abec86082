-- `hostflumerecord::write::skw_flume_write`: the writer's own promise, its answer told as number, place and length. Assumes nothing.
use mathlib.Core.Path.{refl}
use Rattle.hostflumerecord.proofs.Returned.{settings-back, site-back}
use Rattle.hostflumerecord.proofs.Told.{write-told}
use Rattle.hostflumerecord.proofs.write.skw_flume_write.Goals as goal

pub returns-in-Ok : goal.returns-in-Ok
returns-in-Ok c =
    write-told (settings-back c.args.p c.args.gx c.args.gz c.ranges.p c.ranges.gx c.ranges.gz) (site-back c.args.edge c.args.ox c.args.oz c.ranges.edge c.ranges.ox c.ranges.oz)
    c.in-Ok.ensures refl refl refl

pub returns-in-Err : goal.returns-in-Err
returns-in-Err c =
    write-told (settings-back c.args.p c.args.gx c.args.gz c.ranges.p c.ranges.gx c.ranges.gz) (site-back c.args.edge c.args.ox c.args.oz c.ranges.edge c.ranges.ox c.ranges.oz)
    c.in-Err.ensures c.number.ensures c.place.ensures refl
