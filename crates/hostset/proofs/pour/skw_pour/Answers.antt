-- `hostset::pour::skw_pour`: the act's own promise, its answer told as number, place and what was moved. Assumes nothing.
use mathlib.Core.Path.{◌∙◌}
use mir.Syntax.{w64}
use mir.Facts.{to_z-of_z}
use Rattle.hostset.proofs.Told.{act-told}
use Rattle.hostset.proofs.pour.skw_pour.Goals as goal

pub returns : goal.returns
returns c =
    let w = c in
    let m = c.acted_moved-m in
    act-told (to_z-of_z w.ranges.amount) c.pour-a.ensures c.acted_number.ensures c.acted_place.ensures
    (to_z-of_z {w = w64} {z = m.result} (record { sfits = m.type_inv }) ∙ m.ensures)
