-- `reading::loading::load` reads, and hands out the flags as the caller's own bytes. Assumes nothing.
use mathlib.Core.List.{[]}
use Rattle.grid.specs.State.{lent}
use Rattle.record.proofs.Spanned.{handed}
use Rattle.reading.proofs.loading.load.Goals as goal

pub returns : goal.returns
returns c =
    let a = c.args in
    let e = c.read-h.ensures in
    (e, handed a.rec (lent [] a.parts.now a.masses.now a.fills.now a.carry.now) c.read-h.result c.flags_of-f.result e.head-is c.flags_of-f.ensures)
