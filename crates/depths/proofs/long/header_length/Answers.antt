-- `depths::long::header_length`: the lines' own bytes, and the five numbers. Assumes nothing.
use mathlib.Core.Path.{◌≡◌, ap, ◌∙◌}
use native.Mathlib.Omega.{arith}
use lib.IntN.{ℤ}
use lib.ListN.{length}
use mir.Syntax.{w64}
use mir.Facts.{to_z-of_z}
use Rattle.spelling.specs.Spelling.{metres_of}
use Rattle.spelling.proofs.Putting.{spell-long, width-most}
use Rattle.depths.proofs.Texts.{header-long, metres-most}
use Rattle.depths.proofs.long.header_length.Lts as lts
use Rattle.depths.proofs.long.header_length.Reads as reads
use Rattle.depths.proofs.long.header_length.Tie as tie
use Rattle.depths.proofs.long.header_length.Goals as goal

abbrev At-After-metres_length : Type 0
At-After-metres_length = lts.After-metres_length tie.the-claims reads.Pre reads.Post

abbrev At-After-metres_length-2 : Type 0
At-After-metres_length-2 = lts.After-metres_length2 tie.the-claims reads.Pre reads.Post

abbrev At-After-metres_length-3 : Type 0
At-After-metres_length-3 = lts.After-metres_length3 tie.the-claims reads.Pre reads.Post

-- a length in metres is spelled as it stands in the corner
west : (c : At-After-metres_length) → c.metres_length.result ≡ length (metres_of c.args.t.x)
west c = c.metres_length.ensures ∙ ap (λ (z : ℤ). length (metres_of z)) (to_z-of_z {w = w64} (record { sfits = c.struct_told-1.given.1.0.1 }))

south : (c : At-After-metres_length-2) → c.metres_length-2.result ≡ length (metres_of c.args.t.y)
south c = c.metres_length-2.ensures ∙ ap (λ (z : ℤ). length (metres_of z)) (to_z-of_z {w = w64} (record { sfits = c.struct_told-2-1.given.1.1.0.1 }))

edge : (c : At-After-metres_length-3) → c.metres_length-3.result ≡ length (metres_of c.args.t.edge)
edge c = c.metres_length-3.ensures ∙ ap (λ (z : ℤ). length (metres_of z)) (to_z-of_z {w = w64} (record { sfits = c.struct_told-3-1.given.0.1 }))

pub overflow_add-sides : goal.overflow_add-sides
overflow_add-sides c =
    let s = c.args.s in
    record { fits = omega (arith, c.width.ensures, c.width-2.ensures, width-most 19 s.nx, width-most 19 s.ny) }

pub overflow_add-corner : goal.overflow_add-corner
overflow_add-corner c =
    let t = c.args.t in
    record { fits = omega (arith, west c.before.before.before, south c.before, metres-most t.x, metres-most t.y) }

pub overflow_add-result : goal.overflow_add-result
overflow_add-result c =
    let w = c in
    let s = w.args.s in
    record { fits = omega (arith, w.width.ensures, w.width-2.ensures, width-most 19 s.nx, width-most 19 s.ny) }

pub overflow_add-result-2 : goal.overflow_add-result-2
overflow_add-result-2 c =
    let w = c in
    let s = w.args.s in
    let t = w.args.t in
    record { fits = omega (arith, w.width.ensures, w.width-2.ensures, width-most 19 s.nx, width-most 19 s.ny, west c.before.before.before, south c.before, metres-most t.x, metres-most t.y) }

pub overflow_add-result-3 : goal.overflow_add-result-3
overflow_add-result-3 c =
    let y = c in
    let w = y in
    let s = w.args.s in
    let t = w.args.t in
    record { fits = omega (arith, w.width.ensures, w.width-2.ensures, width-most 19 s.nx, width-most 19 s.ny, west y.before.before.before.before, south y.before.before, edge c, metres-most t.x, metres-most t.y, metres-most t.edge) }

pub returns : goal.returns
returns c =
    let y = c in
    let w = y in
    let s = w.args.s in
    let t = w.args.t in
    omega (arith, header-long s t, w.width.ensures, w.width-2.ensures, spell-long s.nx, spell-long s.ny, west y.before.before.before.before, south y.before.before, edge c)
