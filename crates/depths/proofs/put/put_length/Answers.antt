-- `depths::put::put_length`: the keyword with its space, the metres, LF. Assumes nothing.
use mathlib.Core.Path.{ap}
use mathlib.Core.List.{[], ◌∷◌, ◌++◌}
use native.Mathlib.Omega.{arith}
use lib.IntN.{ℤ}
use lib.ListN.{length, length-append}
use mir.Facts.{to_z-of_z}
use Rattle.spelling.specs.Spelling.{metres_of}
use Rattle.spelling.proofs.Putting.{put-long, put_as, put_then}
use Rattle.depths.proofs.put.put_length.Goals as goal

pub put_bytes-p-requires : goal.put_bytes-p-requires
put_bytes-p-requires c =
    let a = c.args in
    omega (arith, c.requires, length-append a.key.now (metres_of a.z ++ 10 ∷ []))

pub put_metres-q-requires : goal.put_metres-q-requires
put_metres-q-requires c =
    let b = c in
    let s = b in
    let a = s.args in
    omega (arith, s.requires, length-append a.key.now (metres_of a.z ++ 10 ∷ []), length-append (metres_of a.z) (10 ∷ []), b.put_bytes-p.ensures.end, put-long b.put_bytes-p.ensures, ap (λ (z : ℤ). length (metres_of z)) (to_z-of_z s.ranges.z))

pub put_byte-requires : goal.put_byte-requires
put_byte-requires c =
    let n = c in
    let b = n in
    let s = b in
    let a = s.args in
    omega (arith, s.requires, length-append a.key.now (metres_of a.z ++ 10 ∷ []), length-append (metres_of a.z) (10 ∷ []), b.put_bytes-p.ensures.end, put-long b.put_bytes-p.ensures, n.put_metres-q.ensures.end, put-long n.put_metres-q.ensures, ap (λ (z : ℤ). length (metres_of z)) (to_z-of_z s.ranges.z))

pub returns : goal.returns
returns c =
    let p = c in
    let n = p in
    let b = n in
    let s = b in
    put_then b.put_bytes-p.ensures (put_then (put_as n.put_metres-q.ensures (ap metres_of (to_z-of_z s.ranges.z))) p.put_byte.ensures)
