-- `depths::put::put_map`: the header, and behind it the rows. Assumes nothing.
use mathlib.Core.Path.{◌≡◌, sym, ap, ◌∙◌, subst}
use mathlib.Core.List.{List}
use Prim.Native.Nat.{ℕ}
use native.Mathlib.Omega.{arith}
use lib.IntN.{nat_abs}
use lib.ListN.{length}
use mir.Syntax.{w64}
use mir.Val.{to_z, of_z}
use mir.Facts.{to_z-of_z}
use Rattle.spelling.proofs.Putting.{put_as, put_then, put-long}
use Rattle.depths.specs.inner.Asks.{Measured}
use Rattle.depths.specs.Map.{depth_at, rows_text}
use Rattle.depths.proofs.Texts.{map_is, map-long}
use Rattle.depths.proofs.put.put_map.Lts as lts
use Rattle.depths.proofs.put.put_map.Reads as reads
use Rattle.depths.proofs.put.put_map.Tie as tie
use Rattle.depths.proofs.put.put_map.Goals as goal

abbrev At-Start : Type 0
At-Start = lts.Start tie.the-claims reads.Pre reads.Post tie.handed_clauses

abbrev At-After-magnitude-edge : Type 0
At-After-magnitude-edge = lts.After-magnitude tie.the-claims reads.Pre reads.Post tie.handed_clauses

-- the rows, with an edge
abbrev rows : At-Start → ℕ → List ℕ
rows w e = let a = w.args in rows_text (depth_at a.s e a.flags.now a.fills.now) a.s.nx a.s.ny

edge-is : (c : At-After-magnitude-edge) → c.magnitude-edge.result ≡ nat_abs c.args.t.edge
edge-is c =
    let z = c.args.t.edge in
    let e : to_z w64 (of_z w64 z) ≡ z = to_z-of_z {w = w64} (record { sfits = c.struct_told-1.given.0.1 }) in
    c.magnitude-edge.ensures ∙ ap nat_abs e

pub put_header-p-requires : goal.put_header-p-requires
put_header-p-requires c =
    let w = c in
    let a = w.args in
    omega (arith, w.requires.fills_in_bounds, map-long a.s a.t a.flags.now a.fills.now)

pub put_rows-requires : goal.put_rows-requires
put_rows-requires c =
    let m = c in
    let h = m in
    let w = h in
    let a = w.args in record { measured = subst (λ (e : ℕ). Measured a.s e a.flags.now a.fills.now) (sym (edge-is m.before.before)) w.requires.measured; ny_in_bounds = omega (arith, w.requires.fills_in_bounds, map-long a.s a.t a.flags.now a.fills.now, h.put_header-p.ensures.end, put-long h.put_header-p.ensures, ap (λ (e : ℕ). length (rows w.before.before.before.before.before.before.before.before.before.before.before e)) (edge-is m.before.before)) }

pub returns : goal.returns
returns c =
    let r = c in
    let m = r in
    let h = m in
    let w = h in
    let a = w.args in
    (put_as (put_then h.put_header-p.ensures (put_as r.put_rows.ensures (ap (rows w.before.before.before.before.before.before.before.before.before.before.before.before.before.before) (edge-is m.before.before.before.before.before)))) (map_is a.s a.t a.flags.now a.fills.now)).room-is
