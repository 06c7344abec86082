-- `pools::flood::touch`: a cell that isn't liquid or has a mark gets nothing. Assumes nothing.
use borrow.Author.Tests.{not-true, not-false}
use mathlib.Core.Path.{◌≡◌, sym, ◌∙◌}
use mathlib.Core.Bool.{true}
use Prim.Native.Nat.{◌<◌}
use native.Mathlib.Omega.{arith}
use lib.ListN.{length, get_or}
use Rattle.grid.specs.State.{liquid}
use Rattle.pools.proofs.Flooding.{touch-dry, touch-old, touch-new, is_free}
use Rattle.pools.proofs.flood.touch.Lts as lts
use Rattle.pools.proofs.flood.touch.Reads as reads
use Rattle.pools.proofs.flood.touch.Tie as tie
use Rattle.pools.proofs.flood.touch.Goals as goal

abbrev At-Else-not-is_liquid : Type 0
At-Else-not-is_liquid = lts.Else1 tie.the-claims reads.Pre reads.Post

abbrev At-Else-marks-e-ne0 : Type 0
At-Else-marks-e-ne0 = lts.Else2 tie.the-claims reads.Pre reads.Post

wet : (c : At-Else-not-is_liquid) → liquid (get_or c.args.flags.now c.args.e 0) ≡ true
wet c = sym c.is_liquid.ensures ∙ not-false _ c.if-not-is_liquid.false-raw

place : (c : At-Else-marks-e-ne0) → c.args.tail < length c.args.work.now
place c =
    let a = c in
    a.requires.place (is_free a.args.flags.now a.args.marks.now a.args.work.now a.args.e a.args.m a.args.tail (wet c.before.before) c.if-marks-e-ne0.false)

pub returns-then-not-is_liquid : goal.returns-then-not-is_liquid
returns-then-not-is_liquid c = let a = c in touch-dry a.args.flags.now a.args.marks.now a.args.work.now a.args.e a.args.m a.args.tail (sym c.is_liquid.ensures ∙ not-true _ c.if-not-is_liquid.true-raw)

pub returns-then-marks-e-ne0 : goal.returns-then-marks-e-ne0
returns-then-marks-e-ne0 c = let a = c in touch-old a.args.flags.now a.args.marks.now a.args.work.now a.args.e a.args.m a.args.tail (wet c.before.before.before) c.if-marks-e-ne0.true

pub offset_bounds-work-tail : goal.offset_bounds-work-tail
offset_bounds-work-tail c = omega (arith, place c.before)

pub bounds-work-tail : goal.bounds-work-tail
bounds-work-tail c = place c.before

pub overflow_add-result : goal.overflow_add-result
overflow_add-result c = omega (arith, place c.before)

pub returns : goal.returns
returns c = let a = c in touch-new a.args.flags.now a.args.marks.now a.args.work.now a.args.e a.args.m a.args.tail (wet c.before.before.before) c.if-marks-e-ne0.false
