-- `step::stepping::tried`: pass 0, pass 1, and the rest where pass 1 went through. Assumes nothing.
use mathlib.Core.Path.{ap, ◌∙◌}
use lib.ListN.{length}
use Rattle.whole.specs.laws.Tab.{length-tab}
use Rattle.grid.specs.Grid.{cells_of}
use Rattle.grid.specs.State.{lent}
use Rattle.grid.specs.inner.Passes.{opened_mark}
use Rattle.step.proofs.Finishes.{flowable, like-sized, stopped-tried, finishing, tried-finished}
use Rattle.step.proofs.stepping.tried.Goals as goal

pub mark_open-requires : goal.mark_open-requires
mark_open-requires c = let t = c.requires.stepping in (t.ready.sides, t.ready.sized.flags, t.marks-room)

pub flowing-a-requires : goal.flowing-a-requires
flowing-a-requires c =
    let a = c.args in
    let t = c.requires.stepping in
    let m = c.mark_open.ensures in
    let second = like-sized t.ready.sized t.alike in
    flowable a.s a.g (lent a.flags.now a.parts.now a.masses.now a.fills.now a.carry.now) t.ready a.marks.now second.flags c.requires.dried second.parts second.masses
    (ap length m ∙ length-tab (cells_of a.s) (opened_mark a.s a.flags.now a.marks.now)) m

pub finished-requires : goal.finished-requires
finished-requires c = finishing c.requires.stepping c.in-Ok.ensures

pub returns-in-Err : goal.returns-in-Err
returns-in-Err c = stopped-tried c.requires.stepping c.in-Err.ensures

pub returns-in-Ok : goal.returns-in-Ok
returns-in-Ok c = tried-finished c.requires.stepping.ready c.finished.ensures
