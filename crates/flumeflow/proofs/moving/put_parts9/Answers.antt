-- `flumeflow::moving::put_parts9` does stages 1 to 4 of any cell: what is not liquid gets zeros. Assumes nothing.
use mathlib.Core.Path.{◌≡◌, sym, ap, ◌∙◌}
use mathlib.Core.Bool.{true}
use Prim.Native.Nat.{◌+◌, ◌*◌, ◌≤◌}
use native.Mathlib.Omega.{arith}
use lib.ListN.{length, get_or}
use Rattle.grid.specs.State.{liquid}
use Rattle.grid.proofs.Lists.{get_or-there}
use Rattle.flow.proofs.Collisions.{passed-dry, none}
use Rattle.arrivals.proofs.Spans.{bounded-streamed}
use Rattle.flume.specs.inner.Spread.{spread_lattice}
use Rattle.nine.specs.inner.Cells.{part_of9, pasted9}
use Rattle.nine.proofs.Pasted.{length-pasted9}
use Rattle.flumearrivals.proofs.Nines.{light9, quiet-streamed}
use Rattle.flumeflow.proofs.moving.put_parts9.Lts as lts
use Rattle.flumeflow.proofs.moving.put_parts9.Reads as reads
use Rattle.flumeflow.proofs.moving.put_parts9.Tie as tie
use Rattle.flumeflow.proofs.moving.put_parts9.Goals as goal

abbrev At-Start : Type 0
At-Start = lts.Start tie.the-claims reads.Pre reads.Post

abbrev At-Then-is_liquid : Type 0
At-Then-is_liquid = lts.Then1 tie.the-claims reads.Pre reads.Post

abbrev At-After-is_liquid : Type 0
At-After-is_liquid = lts.After-is_liquid tie.the-claims reads.Pre reads.Post

abbrev At-After-quieted : Type 0
At-After-quieted = lts.After-quieted tie.the-claims reads.Pre reads.Post

abbrev At-After-chosen9 : Type 0
At-After-chosen9 = lts.After-chosen9 tie.the-claims reads.Pre reads.Post

abbrev At-After-put_moved9 : Type 0
At-After-put_moved9 = lts.After-put_moved9 tie.the-claims reads.Pre reads.Post

abbrev At-After-dry_out9 : Type 0
At-After-dry_out9 = lts.After-dry_out9 tie.the-claims reads.Pre reads.Post

abbrev At-Else-is_liquid : Type 0
At-Else-is_liquid = lts.Else1 tie.the-claims reads.Pre reads.Post

-- the flag that was read, whatever stands for a missing one
flag : (s : At-Start) → get_or s.args.flags.now s.args.c 0 ≡ get_or s.args.flags.now s.args.c 3
flag s = get_or-there s.args.flags.now s.args.c 0 3 s.requires.is-cell

kind : (c : At-Then-is_liquid) → liquid (get_or c.args.flags.now c.args.c 3) ≡ true
kind c = let after-is-liquid : At-After-is_liquid = search in sym (ap liquid (flag (search))) ∙ sym after-is-liquid.is_liquid.ensures ∙ c.if-is_liquid.true

-- the list has room for cell c
room : (s : At-Start) → 9 * s.args.c + 9 ≤ length s.args.parts2.now
room s = omega (arith, s.requires.is-cell, s.requires.size, s.requires.bodied.count)

pub chosen9-requires : goal.chosen9-requires
chosen9-requires c =
    let start : At-Start = search in let p = start.requires in
    let l = kind c.before in
    (p.bodied, p.filled, p.around l, l, p.mirrored, p.sources, p.marked l)

pub quieted-requires : goal.quieted-requires
quieted-requires c = quiet-streamed _ _ _ _ _ _ _ _ (c.chosen9.ensures c.args.g)

pub bounds-flags-c-then-is_liquid : goal.bounds-flags-c-then-is_liquid
bounds-flags-c-then-is_liquid c = let start : At-Start = search in start.requires.is-cell

pub put_moved9-requires : goal.put_moved9-requires
put_moved9-requires c =
    let after-quieted : At-After-quieted = search in let after-chosen9 : At-After-chosen9 = search in let t : At-Then-is_liquid = search in
    let s : At-Start = search in
    let e = after-quieted.quieted.ensures ∙ after-chosen9.chosen9.ensures s.args.g in
    (bounded-streamed _ light9 _ _ _ _ _ s.args.g s.requires.bodied.bodies _ (s.requires.around (kind t)) (kind t) _ e _ _ (omega arith) (omega arith), quiet-streamed _ _ _ _ _ _ _ _ e, s.requires.settings, room s, s.requires.keeps)

pub returns-then-is_liquid : goal.returns-then-is_liquid
returns-then-is_liquid c =
    let after-put-moved9 : At-After-put_moved9 = search in let after-quieted : At-After-quieted = search in let after-chosen9 : At-After-chosen9 = search in let t : At-Then-is_liquid = search in
    let s : At-Start = search in
    after-put-moved9.put_moved9.ensures s.args.flags.now s.args.parts.now s.args.fills.now s.args.off.now s.args.low (kind t)
    (after-quieted.quieted.ensures ∙ after-chosen9.chosen9.ensures s.args.g)

pub dry_out9-requires : goal.dry_out9-requires
dry_out9-requires c = room (search)

pub returns : goal.returns
returns c =
    let after-dry-out9 : At-After-dry_out9 = search in let after-is-liquid : At-After-is_liquid = search in let e : At-Else-is_liquid = search in
    let s : At-Start = search in
    let dry = sym (ap liquid (flag s)) ∙ sym after-is-liquid.is_liquid.ensures ∙ e.if-is_liquid.false in
    let put = after-dry-out9.dry_out9.ensures in
    record {
      kept = ap length put ∙ length-pasted9 _ _ _ (room s);
      told = passed-dry spread_lattice.weight _ _ _ _ _ _ _ dry;
      parts = put ∙ ap (pasted9 s.args.parts2.now s.args.c) (sym (none spread_lattice.weight _ (part_of9 s.args.parts.now) _ _ _ _ _ dry));
    }
