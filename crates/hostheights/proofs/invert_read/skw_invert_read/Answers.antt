-- `hostheights::invert_read::skw_invert_read`: the reader's own promise, its head told number by number. Assumes nothing.
use mathlib.Core.Bool.{false}
use mir.Syntax.{w64}
use mir.ValLaws.{to_z-of_z}
use Rattle.host.proofs.Returned.{settings-back}
use Rattle.hostheights.proofs.Told.{invert-told}
use Rattle.hostheights.proofs.invert_read.skw_invert_read.Goals as goal

pub returns : goal.returns
returns c =
    let d = c in
    let a = d.args in
    let f = d.ranges in
    let sides = c.put_sides.ensures in
    let site = c.put_site.ensures in
    invert-told (to_z-of_z w64 a.oz f.oz) (settings-back false a.p a.gx a.gy a.gz f.p f.gx f.gy f.gz) d.read-h.ensures c.number_of.ensures c.place_of.ensures
    sides.0 sides.1 site.0 site.1 site.2
