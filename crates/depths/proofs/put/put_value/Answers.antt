-- `depths::put::put_value`: a value, and what stands behind it. Assumes nothing.
use mathlib.Core.Path.{ap}
use mathlib.Core.List.{[], ◌∷◌}
use Prim.Native.Nat.{ℕ}
use native.Mathlib.Omega.{arith}
use lib.IntN.{ℤ}
use lib.ListN.{length}
use mir.Facts.{to_z-of_z}
use Rattle.spelling.specs.Spelling.{whole_of}
use Rattle.spelling.proofs.Putting.{put-long, put_as, put_then}
use Rattle.depths.proofs.Texts.{value-long}
use Rattle.depths.proofs.put.put_value.Goals as goal

pub put_whole-p-requires : goal.put_whole-p-requires
put_whole-p-requires c =
    let s = c in
    omega (arith, s.requires, value-long s.args.v s.args.n, ap (λ (z : ℤ). length (whole_of z)) (to_z-of_z s.ranges.v))

pub put_byte-requires : goal.put_byte-requires
put_byte-requires c =
    let w = c in
    let s = w in
    omega (arith, s.requires, value-long s.args.v s.args.n, ap (λ (z : ℤ). length (whole_of z)) (to_z-of_z s.ranges.v), w.put_whole-p.ensures.end, put-long w.put_whole-p.ensures)

pub returns : goal.returns
returns c =
    let p = c in
    let g = p in
    let w = g in
    let s = w in
    put_then (put_as w.put_whole-p.ensures (ap whole_of (to_z-of_z s.ranges.v))) (put_as p.put_byte.ensures (ap (λ (b : ℕ). b ∷ []) g.parting.ensures))
