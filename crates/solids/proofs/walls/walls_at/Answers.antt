-- `solids::walls::walls_at`: the number there, and its column. Assumes nothing.
use mir.Syntax.{w64}
use Prim.Native.Nat.{◌-◌, ◌≤◌}
use lib.ListN.{take, drop}
use Rattle.numerals.specs.Number.{number_of}
use mathlib.Core.Path.{◌≡◌, ap, ◌∙◌}
use native.Mathlib.Omega.{arith}
use mir.Facts.{to_z-of_z}
use Rattle.solids.specs.Invert.{or_zero}
use Rattle.solids.specs.inner.Walls.{height_of}
use Rattle.solids.proofs.Heights.{height-le}
use Rattle.solids.proofs.walls.walls_at.Goals as goal

pub returns : goal.returns
returns c =
    let s = c in
    let a = s.args in
    let z = or_zero (number_of (take (a.to - a.from) (drop a.from a.s.now))) in
    let v = to_z-of_z {w = w64} (record { sfits = c.value_or_zero.type_inv }) ∙ c.value_or_zero.ensures ∙ ap or_zero c.number_of.ensures in
    let e : c.walls_of.result ≡ height_of a.edge a.nz z = c.walls_of.ensures ∙ ap (height_of a.edge a.nz) v in
    let h : a.nz ≤ 128 = s.requires.nz_bound in
    record { value = e; upper_bound = omega (arith, e, height-le a.edge a.nz z) }
