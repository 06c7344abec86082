-- `flow::moving::put_parts` does stages 1 to 4 of any cell: what is not liquid gets zeros. Assumes nothing.
use mathlib.Core.Path.{◌≡◌, sym, ap, ◌∙◌}
use mathlib.Core.Bool.{true}
use Prim.Native.Nat.{◌+◌, ◌*◌, ◌≤◌}
use native.Mathlib.Omega.{arith}
use lib.ListN.{length, get_or}
use Rattle.grid.specs.State.{liquid}
use Rattle.grid.specs.inner.Sight.{bodies_of}
use Rattle.grid.proofs.Lists.{get_or-there}
use Rattle.flow.proofs.Collisions.{put-dry}
use Rattle.arrivals.proofs.Spans.{light19, bounded-streamed}
use Rattle.flow.proofs.moving.put_parts.Lts as lts
use Rattle.flow.proofs.moving.put_parts.Reads as reads
use Rattle.flow.proofs.moving.put_parts.Tie as tie
use Rattle.flow.proofs.moving.put_parts.Goals as goal

abbrev At-Start : Type 0
At-Start = lts.Start tie.the-claims reads.Pre reads.Post

abbrev At-Then-is_liquid : Type 0
At-Then-is_liquid = lts.Then1 tie.the-claims reads.Pre reads.Post

abbrev At-After-is_liquid : Type 0
At-After-is_liquid = lts.After-is_liquid tie.the-claims reads.Pre reads.Post

abbrev At-After-chosen : Type 0
At-After-chosen = lts.After-chosen tie.the-claims reads.Pre reads.Post

abbrev At-After-put_moved : Type 0
At-After-put_moved = lts.After-put_moved tie.the-claims reads.Pre reads.Post

abbrev At-After-dry_out : Type 0
At-After-dry_out = lts.After-dry_out tie.the-claims reads.Pre reads.Post

abbrev At-Else-is_liquid : Type 0
At-Else-is_liquid = lts.Else1 tie.the-claims reads.Pre reads.Post

-- the flag that was read, whatever stands for a missing one
flag : (s : At-Start) → get_or s.args.flags.now s.args.c 0 ≡ get_or s.args.flags.now s.args.c 3
flag s = get_or-there s.args.flags.now s.args.c 0 3 s.requires.is-cell

kind : (c : At-Then-is_liquid) → liquid (get_or c.args.flags.now c.args.c 3) ≡ true
kind c = let after-is-liquid : At-After-is_liquid = search in sym (ap liquid (flag (search))) ∙ sym after-is-liquid.is_liquid.ensures ∙ c.if-is_liquid.true

-- the list has room for cell c
room : (s : At-Start) → 19 * s.args.c + 19 ≤ length s.args.parts2.now
room s = omega (arith, s.requires.is-cell, s.requires.size, s.requires.bodied.count)

pub chosen-requires : goal.chosen-requires
chosen-requires c =
    let start : At-Start = search in let p = start.requires in
    let l = kind c.before in
    (p.bodied, p.filled, p.around l, l, p.mirrored, p.sources, p.marked l, p.enclosed)

pub bounds-flags-c-then-is_liquid : goal.bounds-flags-c-then-is_liquid
bounds-flags-c-then-is_liquid c = let start : At-Start = search in start.requires.is-cell

pub put_moved-requires : goal.put_moved-requires
put_moved-requires c =
    let after-chosen : At-After-chosen = search in let t : At-Then-is_liquid = search in
    let s : At-Start = search in
    (bounded-streamed _ light19 _ _ _ _ _ s.args.g (bodies_of s.requires.bodied) _ (s.requires.around (kind t)) (kind t) _ (after-chosen.chosen.ensures s.args.g) _ _ (omega arith) (omega arith), s.requires.settings, room s, s.requires.keeps)

pub returns-then-is_liquid : goal.returns-then-is_liquid
returns-then-is_liquid c =
    let after-put-moved : At-After-put_moved = search in let after-chosen : At-After-chosen = search in let t : At-Then-is_liquid = search in
    let s : At-Start = search in
    after-put-moved.put_moved.ensures s.args.flags.now s.args.parts.now s.args.fills.now s.args.off.now s.args.low (kind t) (after-chosen.chosen.ensures s.args.g)

pub dry_out-requires : goal.dry_out-requires
dry_out-requires c = room (search)

pub returns : goal.returns
returns c =
    let after-dry-out : At-After-dry_out = search in let after-is-liquid : At-After-is_liquid = search in let e : At-Else-is_liquid = search in
    let s : At-Start = search in
    put-dry _ _ _ _ _ _ _ _ (sym (ap liquid (flag s)) ∙ sym after-is-liquid.is_liquid.ensures ∙ e.if-is_liquid.false) _ _ (room s) after-dry-out.dry_out.ensures
