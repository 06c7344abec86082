-- `landings::landing::tells`: equal bits are equal floors. Assumes nothing.
use mathlib.Core.Path.{◌∙◌, ap₂}
use lib.IntN.{pos, ◌+ℤ◌}
use lib.Signed.{shr_z}
use mir.Syntax.{w32}
use mir.Val.{to_z, of_z}
use mir.Facts.{to_z-of_z}
use Rattle.whole.specs.laws.Machine.{Val, same, does-fit, reads_as}
use Rattle.lattice.specs.Body.{eq_z}
use Rattle.lattice.proofs.Equal.{bits-eq_z}
use Rattle.lattice.proofs.Reading.{inside}
use Rattle.landings.specs.inner.Estimate.{tells}
use Rattle.landings.proofs.Loss.{shifting}
use Rattle.landings.proofs.landing.tells.Goals as goal

abbrev mixed-is : (c : goal.After-mixed-s) → Val c.mixed-s.result
mixed-is c =
    let m = rw (to_z-of_z c.ranges.f, to_z-of_z c.ranges.c) at c.mixed-s.ensures.0 in
    same m (inside (rw m at c.mixed-s.ensures.1))

pub overflow_add-result : goal.overflow_add-result
overflow_add-result c = let t = mixed-is c in does-fit (search shifting depth 20) tt

pub returns : goal.returns
unfolding tells
returns c =
    let t = mixed-is c in
    let s = to_z w32 (of_z w32 c.mixed-s.result) in
    let x : Val (shr_z s 1024) = search shifting depth 20 in
    let y : Val (shr_z (to_z w32 (of_z w32 (s +ℤ pos 1))) 1024) = search shifting depth 20 in
    bits-eq_z w32 _ _ (does-fit x tt) (does-fit y tt) ∙ ap₂ eq_z (reads_as x tt) (reads_as y tt)
