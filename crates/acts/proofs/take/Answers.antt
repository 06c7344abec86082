-- `acts::take`: one of the two acts. Assumes nothing.
use mir.Facts.{to_z-of_z}
use Rattle.acts.proofs.take.Goals as goal

pub returns : goal.returns
returns c =
    let s = c in
    rw (to_z-of_z s.ranges.amount) at c.act.ensures
