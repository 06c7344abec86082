-- `landings::estimate::speed`: the product fits by what is required, and the shift is the floor. Assumes nothing.
use mathlib.Core.Path.{ap₂}
use lib.IntN.{◌*ℤ◌}
use mir.Syntax.{w64}
use mir.Val.{to_z, of_z}
use mir.Facts.{to_z-of_z}
use Rattle.whole.specs.laws.Machine.{Val, same, v64, does-fit, reads_as}
use Rattle.lattice.proofs.Reading.{inside, whole32}
use Rattle.landings.proofs.Loss.{vshr, by}
use Rattle.landings.proofs.estimate.speed.Goals as goal

abbrev product_is : (c : goal.After-wide) → Val (to_z w64 (of_z w64 c.wide.result) *ℤ to_z w64 (of_z w64 c.args.inv))
product_is c =
    let s = c.before in
    same (ap₂ ◌*ℤ◌ (reads_as (v64 (same c.wide.ensures (whole32 s.ranges.x))) tt) (to_z-of_z s.ranges.inv)) (inside s.requires)

pub overflow_mul-result : goal.overflow_mul-result
overflow_mul-result c = does-fit (product_is c) tt

pub returns : goal.returns
returns c = reads_as (v64 (vshr (v64 (product_is c)) (by tt))) tt
