-- `depths::long::map_length`: the header and the rows. Assumes nothing.
use mathlib.Core.Path.{◌≡◌, sym, ap, ◌∙◌, subst}
use Prim.Native.Nat.{ℕ}
use native.Mathlib.Omega.{arith}
use lib.IntN.{nat_abs}
use lib.ListN.{length}
use mir.Syntax.{w64}
use mir.Val.{to_z, of_z}
use mir.Facts.{to_z-of_z}
use Rattle.grid.proofs.GoodSides.{good-sides}
use Rattle.depths.specs.inner.Asks.{Measured}
use Rattle.depths.specs.Map.{depth_at, rows_text}
use Rattle.depths.proofs.Texts.{map-long, header-most, rows-most}
use Rattle.depths.proofs.long.map_length.Lts as lts
use Rattle.depths.proofs.long.map_length.Reads as reads
use Rattle.depths.proofs.long.map_length.Tie as tie
use Rattle.depths.proofs.long.map_length.Goals as goal

abbrev At-After-magnitude : Type 0
At-After-magnitude = lts.After-magnitude tie.the-claims reads.Pre reads.Post

abbrev At-After-rows_length-rows : Type 0
At-After-rows_length-rows = lts.After-rows_length tie.the-claims reads.Pre reads.Post

edge-is : (c : At-After-magnitude) → c.magnitude.result ≡ nat_abs c.args.t.edge
edge-is c =
    let z = c.args.t.edge in
    let e : to_z w64 (of_z w64 z) ≡ z = to_z-of_z {w = w64} (record { sfits = c.struct_told-1.given.0.1 }) in
    c.magnitude.ensures ∙ ap nat_abs e

rows_are : (c : At-After-rows_length-rows) → let a = c.args in
    c.rows_length-rows.result ≡ length (rows_text (depth_at a.s (nat_abs a.t.edge) a.flags.now a.fills.now) a.s.nx a.s.ny)
rows_are c =
    let a = c.args in
    c.rows_length-rows.ensures ∙ ap (λ (e : ℕ). length (rows_text (depth_at a.s e a.flags.now a.fills.now) a.s.nx a.s.ny)) (edge-is c.before)

pub rows_length-rows-requires : goal.rows_length-rows-requires
rows_length-rows-requires c =
    let w = c in
    let a = w.args in
    subst (λ (e : ℕ). Measured a.s e a.flags.now a.fills.now) (sym (edge-is c.before)) w.requires

pub overflow_add-result : goal.overflow_add-result
overflow_add-result c =
    let w = c in
    let a = w.args in
    let g = good-sides a.s w.requires.good in
    record { fits = omega (arith, c.header_length.ensures, header-most a.s a.t, rows_are c.before.before, rows-most (depth_at a.s (nat_abs a.t.edge) a.flags.now a.fills.now) a.s.nx a.s.ny g.x.high, g.y.high) }

pub returns : goal.returns
returns c =
    let a = c.args in
    omega (arith, c.header_length.ensures, rows_are c.before.before, map-long a.s a.t a.flags.now a.fills.now)
