-- `hostset::take::skw_take`: the act's own promise, its answer told as number, place and what was moved. Assumes nothing.
use mathlib.Core.Path.{◌∙◌}
use mir.Syntax.{w64}
use mir.Facts.{to_z-of_z}
use Rattle.hostset.proofs.Told.{act-told}
use Rattle.hostset.proofs.take.skw_take.Goals as goal

pub returns : goal.returns
returns c =
    let w = c in
    let m = c.acted_moved-m in
    let amount = to_z-of_z w.ranges.amount in
    let moved = to_z-of_z {w = w64} {z = m.result} (record { sfits = m.type_inv }) ∙ m.ensures in
    search act-told
