-- `pools::flood::visit`: a cell that isn't liquid or has its mark changes nothing; another one begins a pool, and the queue is drained. Assumes nothing.
use borrow.Author.Tests.{not-true, not-false}
use mathlib.Core.Path.{◌≡◌, sym, ap, ◌∙◌}
use Prim.Native.Nat.{◌+◌, ◌≤◌, ◌<◌}
use native.Mathlib.Omega.{arith}
use lib.ListN.{length, get_or}
use Rattle.grid.specs.Grid.{cells_of}
use Rattle.grid.specs.State.{liquid}
use Rattle.grid.proofs.Lists.{get_or-there}
use Rattle.pools.proofs.Flooding.{Wets, wet, few-cells}
use Rattle.pools.proofs.Scanning.{flooded-dry, flooded-old, mark-fits, queue-room, begins, flooded-new}
use Rattle.pools.proofs.flood.visit.Lts as lts
use Rattle.pools.proofs.flood.visit.Reads as reads
use Rattle.pools.proofs.flood.visit.Tie as tie
use Rattle.pools.proofs.flood.visit.Goals as goal

abbrev At-Start : Type 0
At-Start = lts.Start tie.the-claims reads.Pre reads.Post

abbrev At-Else-not-is_liquid : Type 0
At-Else-not-is_liquid = lts.Else1 tie.the-claims reads.Pre reads.Post

abbrev At-After-struct_known-1 : Type 0
At-After-struct_known-1 = lts.After-struct_known tie.the-claims reads.Pre reads.Post

-- the flag of cell c, whatever stands for a missing one
module _ (a : At-Start) where
  flag_is : get_or a.args.flags.now a.args.c 3 ≡ get_or a.args.flags.now a.args.c 0
  flag_is = get_or-there a.args.flags.now a.args.c 3 0 (omega (arith, a.requires.0.flagged.count, a.requires.1))

own-wet : (c : At-Else-not-is_liquid) → Wets c.requires.0.flagged c.args.c
own-wet c =
    let a = c in
    wet a.requires.0.flagged a.args.c a.requires.1 (ap liquid (flag_is a.before.before.before.before.before.before) ∙ sym c.is_liquid.ensures ∙ not-false _ c.if-not-is_liquid.false-raw)

-- the pool that begins
fits : (c : At-After-struct_known-1) → c.args.found.pools + 1 < 65536
fits c = let a = c in mark-fits a.requires.0.flagged a.requires.2 (own-wet c.before.before.before) c.if-marks-c-ne0.false

place : (c : At-After-struct_known-1) → c.args.found.tail < length c.args.work.now
place c = let a = c in queue-room a.requires.0.flagged a.requires.2 (own-wet c.before.before.before) c.if-marks-c-ne0.false

most : (a : At-Start) → cells_of a.args.s ≤ 262144
most a = omega (arith, few-cells a.requires.0.flagged, a.requires.0.flagged.count)

pub returns-then-not-is_liquid : goal.returns-then-not-is_liquid
returns-then-not-is_liquid c =
    let a = c in
    flooded-dry a.requires.0.flagged a.requires.2 (ap liquid (flag_is a.before.before.before.before.before.before.before) ∙ sym c.is_liquid.ensures ∙ not-true _ c.if-not-is_liquid.true-raw)

pub returns-then-marks-c-ne0 : goal.returns-then-marks-c-ne0
returns-then-marks-c-ne0 c =
    let a = c in
    flooded-old a.requires.0.flagged a.requires.2 (own-wet c.before.before.before) c.if-marks-c-ne0.true

pub overflow_add-pools : goal.overflow_add-pools
overflow_add-pools c = omega (arith, fits c.before)

pub overflow_cast-marks : goal.overflow_cast-marks
overflow_cast-marks c = omega (arith, fits c.before)

pub overflow_cast-work : goal.overflow_cast-work
overflow_cast-work c = let a = c in omega (arith, a.requires.1, most a.before.before.before.before.before.before.before.before.before.before)

pub offset_bounds-work-tail : goal.offset_bounds-work-tail
offset_bounds-work-tail c = omega (arith, place c.before)

pub bounds-work-tail : goal.bounds-work-tail
bounds-work-tail c = place c.before

pub overflow_add-tail : goal.overflow_add-tail
overflow_add-tail c = omega (arith, place c.before.before.before)

pub drain-end-requires : goal.drain-end-requires
drain-end-requires c =
    let d = c in
    let a = d in
    (a.requires.0, begins a.requires.0.flagged a.requires.2 (own-wet d.before.before.before.before.before.before) d.if-marks-c-ne0.false, omega arith)

pub returns : goal.returns
returns c =
    let d = c in
    let a = d in
    flooded-new a.requires.0.flagged a.requires.2 (own-wet d.before.before.before.before.before.before.before.before.before.before.before) d.if-marks-c-ne0.false c.drain-end.ensures
