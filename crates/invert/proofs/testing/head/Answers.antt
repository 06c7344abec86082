-- `invert::testing::head` is 19, or the answer of the tests behind it. Assumes nothing.
use mathlib.Core.Path.{◌∙◌}
use mir.Facts.{to_z-of_z}
use Rattle.invert.proofs.Opened.{header-long}
use Rattle.invert.proofs.Tested.{head-bad, head-so}
use Rattle.invert.proofs.testing.head.Goals as goal

pub tested-requires : goal.tested-requires
tested-requires c = header-long _ _ c.in-Ok.ensures

pub returns-in-Err : goal.returns-in-Err
returns-in-Err c =
    let a = c.args in
    c.refused.ensures ∙ head-bad a.text.now a.nz a.oz a.g a.l c.in-Err.ensures

pub returns-in-Ok : goal.returns-in-Ok
returns-in-Ok c =
    let a = c.args in
    c.told.ensures
    ∙ head-so a.text.now a.nz a.oz a.g a.l c.in-Ok.ensures c.sides_of-s.ensures
    (rw (to_z-of_z c.ranges.oz) at c.site_of-t.ensures) c.tested.ensures
