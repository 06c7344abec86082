-- `depths::put::put_header`: line after line; what is stored, and the lines left, are the header. Assumes nothing.
use mathlib.Core.Path.{refl, ap}
use mathlib.Core.List.{List, []}
use Prim.Native.Nat.{ℕ, ◌+◌, ◌≤◌}
use native.Mathlib.Omega.{arith}
use lib.IntN.{ℤ}
use lib.ListN.{length}
use mir.Syntax.{w64}
use mir.Facts.{to_z-of_z}
use Rattle.spelling.specs.Spelling.{spell_of, metres_of}
use Rattle.spelling.proofs.Putting.{put_as}
use Rattle.depths.specs.Map.{ncols, nrows, xllcorner, yllcorner, cellsize, NODATA-value, no_data, line_text, header_text}
use Rattle.depths.proofs.Texts.{last, from_edge, from_south, from_west, from_rows, header_is}
use Rattle.depths.proofs.Storing.{Under, under-begin, under-as, line-more, line-room, metres-room, under-end, under-long}
use Rattle.depths.proofs.put.put_header.Lts as lts
use Rattle.depths.proofs.put.put_header.Reads as reads
use Rattle.depths.proofs.put.put_header.Tie as tie
use Rattle.depths.proofs.put.put_header.Goals as goal

abbrev At-Start : Type 0
At-Start = lts.Start tie.the-claims reads.Pre reads.Post

abbrev At-After-put_cells-a : Type 0
At-After-put_cells-a = lts.After-put_cells tie.the-claims reads.Pre reads.Post

abbrev At-After-put_cells-b : Type 0
At-After-put_cells-b = lts.After-put_cells2 tie.the-claims reads.Pre reads.Post

abbrev At-After-put_length-c : Type 0
At-After-put_length-c = lts.After-put_length tie.the-claims reads.Pre reads.Post

abbrev At-After-put_length-d : Type 0
At-After-put_length-d = lts.After-put_length2 tie.the-claims reads.Pre reads.Post

abbrev At-After-put_length-e : Type 0
At-After-put_length-e = lts.After-put_length3 tie.the-claims reads.Pre reads.Post

abbrev At-After-put_bytes : Type 0
At-After-put_bytes = lts.After-put_bytes tie.the-claims reads.Pre reads.Post

-- what is left, after each call
abbrev Left : At-Start → List ℕ → List ℕ → ℕ → Type 0
Left w rest after r = Under (header_text w.args.s w.args.t []) w.args.room.now 0 rest after r

begin : (w : At-Start) → Left w (line_text ncols (spell_of w.args.s.nx) (from_rows w.args.s w.args.t [])) w.args.room.now 0
begin w = under-as under-begin (header_is w.args.s w.args.t [])

-- the room suffices
all : (w : At-Start) → 0 + length (header_text w.args.s w.args.t []) ≤ length w.args.room.now
all w = omega (arith, w.requires)

columns : (c : At-After-put_cells-a) → let w = c in Left w.before.before.before.before.before (from_rows w.args.s w.args.t []) c.put_cells-a.new.room c.put_cells-a.result
columns c =
    let w = c in
    line-more ncols (spell_of w.args.s.nx) (from_rows w.args.s w.args.t []) (begin w.before.before.before.before.before) c.put_cells-a.ensures

rows : (c : At-After-put_cells-b) → let w = c in Left w.before.before.before.before.before.before.before.before.before.before.before (from_west w.args.s w.args.t []) c.put_cells-b.new.room c.put_cells-b.result
rows c =
    let p = c in
    let w = p in
    line-more nrows (spell_of w.args.s.ny) (from_west w.args.s w.args.t []) (columns p.before.before.before.before.before.before) c.put_cells-b.ensures

west : (c : At-After-put_length-c) → let w = c in Left w.before.before.before.before.before.before.before.before.before.before.before.before.before.before.before.before.before.before (from_south w.args.s w.args.t []) c.put_length-c.new.room c.put_length-c.result
west c =
    let p = c in
    let w = p in
    line-more xllcorner (metres_of w.args.t.x) (from_south w.args.s w.args.t []) (rows p.before.before.before.before.before.before.before)
    (put_as c.put_length-c.ensures (ap (λ (z : ℤ). line_text xllcorner (metres_of z) []) (to_z-of_z {w = w64} (record { sfits = c.struct_told-1.given.1.0.1 }))))

south : (c : At-After-put_length-d) → let p = c in let w = p in Left w.before.before.before.before.before.before.before.before.before.before.before.before.before.before.before.before.before.before.before.before.before.before.before.before.before (from_edge w.args.s w.args.t []) c.put_length-d.new.room c.put_length-d.result
south c =
    let p = c in
    let w = p in
    line-more yllcorner (metres_of w.args.t.y) (from_edge w.args.s w.args.t []) (west p.before.before.before.before.before.before.before)
    (put_as c.put_length-d.ensures (ap (λ (z : ℤ). line_text yllcorner (metres_of z) []) (to_z-of_z {w = w64} (record { sfits = c.struct_told-2-1.given.1.1.0.1 }))))

edge : (c : At-After-put_length-e) → let q = c in let p = q in let w = p in Left w.before.before.before.before.before.before.before.before.before.before.before.before.before.before.before.before.before.before.before.before.before.before.before.before.before.before.before.before.before.before.before.before (last w.args.s w.args.t []) c.put_length-e.new.room c.put_length-e.result
edge c =
    let q = c in
    let p = q in
    let w = p in
    line-more cellsize (metres_of w.args.t.edge) (last w.args.s w.args.t []) (south q.before.before.before.before.before.before.before)
    (put_as c.put_length-e.ensures (ap (λ (z : ℤ). line_text cellsize (metres_of z) []) (to_z-of_z {w = w64} (record { sfits = c.struct_told-3-1.given.0.1 }))))

-- the six lines are the header
done : (c : At-After-put_bytes) → let w = c in Left w.before.before.before.before.before.before.before.before.before.before.before.before.before.before.before.before.before.before.before.before.before.before.before.before.before.before.before.before.before.before.before.before.before.before.before.before.before.before [] c.put_bytes.new.room c.put_bytes.result
done c = line-more NODATA-value no_data [] (edge c.before.before.before.before.before.before) c.put_bytes.ensures

pub put_cells-a-requires : goal.put_cells-a-requires
put_cells-a-requires c =
    let w = c in
    line-room ncols (spell_of w.args.s.nx) (from_rows w.args.s w.args.t []) (begin w.before.before.before.before) (all w.before.before.before.before)

pub put_cells-b-requires : goal.put_cells-b-requires
put_cells-b-requires c =
    let p = c in
    let w = p in
    line-room nrows (spell_of w.args.s.ny) (from_west w.args.s w.args.t []) (columns p.before.before.before.before.before) (all w.before.before.before.before.before.before.before.before.before.before)

pub put_length-c-requires : goal.put_length-c-requires
put_length-c-requires c =
    let p = c in
    let w = p in
    metres-room xllcorner (from_south w.args.s w.args.t []) (rows p.before.before.before.before.before.before.before) (all w.before.before.before.before.before.before.before.before.before.before.before.before.before.before.before.before.before.before) (to_z-of_z {w = w64} (record { sfits = c.struct_told-1.given.1.0.1 }))

pub put_length-d-requires : goal.put_length-d-requires
put_length-d-requires c =
    let p = c in
    let w = p in
    metres-room yllcorner (from_edge w.args.s w.args.t []) (west p.before.before.before.before.before.before.before) (all w.before.before.before.before.before.before.before.before.before.before.before.before.before.before.before.before.before.before.before.before.before.before.before.before.before) (to_z-of_z {w = w64} (record { sfits = c.struct_told-2-1.given.1.1.0.1 }))

pub put_length-e-requires : goal.put_length-e-requires
put_length-e-requires c =
    let q = c in
    let p = q in
    let w = p in
    metres-room cellsize (last w.args.s w.args.t []) (south q.before.before.before.before.before.before.before) (all w.before.before.before.before.before.before.before.before.before.before.before.before.before.before.before.before.before.before.before.before.before.before.before.before.before.before.before.before.before.before.before.before) (to_z-of_z {w = w64} (record { sfits = c.struct_told-3-1.given.0.1 }))

pub put_bytes-requires : goal.put_bytes-requires
put_bytes-requires c =
    let e = c in
    let q = e in
    let p = q in
    let w = p in
    line-room NODATA-value no_data [] (edge e.before.before.before.before.before) (all w.before.before.before.before.before.before.before.before.before.before.before.before.before.before.before.before.before.before.before.before.before.before.before.before.before.before.before.before.before.before.before.before.before.before.before.before.before)

pub shape_of-room : goal.shape_of-room
shape_of-room c = under-long (done c.before.before.before)

pub returns : goal.returns
returns c = under-end (done c.before.before.before) refl
