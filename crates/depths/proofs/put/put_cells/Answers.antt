-- `depths::put::put_cells`: the keyword with its space, the number, LF. Assumes nothing.
use mathlib.Core.List.{[], ◌∷◌, ◌++◌}
use native.Mathlib.Omega.{arith}
use lib.ListN.{length-append}
use Rattle.spelling.specs.Spelling.{spell_of}
use Rattle.spelling.proofs.Putting.{put-long, put_then}
use Rattle.depths.proofs.put.put_cells.Goals as goal

pub put_bytes-p-requires : goal.put_bytes-p-requires
put_bytes-p-requires c =
    let a = c.args in
    omega (arith, c.requires, length-append a.key.now (spell_of a.n ++ 10 ∷ []))

pub put_number-q-requires : goal.put_number-q-requires
put_number-q-requires c =
    let b = c in
    let s = b in
    let a = s.args in
    omega (arith, s.requires, length-append a.key.now (spell_of a.n ++ 10 ∷ []), length-append (spell_of a.n) (10 ∷ []), b.put_bytes-p.ensures.end, put-long b.put_bytes-p.ensures)

pub put_byte-requires : goal.put_byte-requires
put_byte-requires c =
    let n = c in
    let b = n in
    let s = b in
    let a = s.args in
    omega (arith, s.requires, length-append a.key.now (spell_of a.n ++ 10 ∷ []), length-append (spell_of a.n) (10 ∷ []), b.put_bytes-p.ensures.end, put-long b.put_bytes-p.ensures, n.put_number-q.ensures.end, put-long n.put_number-q.ensures)

pub returns : goal.returns
returns c =
    let p = c in
    let n = p in
    let b = n in
    put_then b.put_bytes-p.ensures (put_then n.put_number-q.ensures p.put_byte.ensures)
