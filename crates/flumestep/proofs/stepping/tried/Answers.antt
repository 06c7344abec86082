-- `flumestep::stepping::tried`: pass 0, pass 1, and the rest where pass 1 went through. Assumes nothing.
use Rattle.flumestep.proofs.Advances.{flowing, stopped-tried, finishing, tried-finished}
use Rattle.flumestep.proofs.stepping.tried.Goals as goal

pub mark_open-requires : goal.mark_open-requires
mark_open-requires c = let t = c.requires.entered in (t.ready.sides, t.ready.sized.flags, t.marks-room)

pub flowing9-a-requires : goal.flowing9-a-requires
flowing9-a-requires c = flowing c.requires.entered c.level-h.ensures c.mark_open.ensures c.requires.dried

pub finished-requires : goal.finished-requires
finished-requires c = finishing c.requires.entered c.level-h.ensures c.in-Ok.ensures

pub returns-in-Err : goal.returns-in-Err
returns-in-Err c = stopped-tried c.requires.entered c.level-h.ensures c.in-Err.ensures

pub returns-in-Ok : goal.returns-in-Ok
returns-in-Ok c = tried-finished c.finished.ensures
