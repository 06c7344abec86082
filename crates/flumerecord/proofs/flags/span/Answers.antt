-- `flumerecord::flags::span`: an accepted head with good sides has its flags from byte 68 on, if they fit. Assumes nothing.
use mathlib.Core.Path.{◌≡◌, refl, sym, ap, ◌∙◌}
use mathlib.Core.Bool.{true}
use Prim.Native.Nat.{ℕ, ◌+◌}
use native.Mathlib.Omega.{arith}
use lib.ListN.{length}
use borrow.Author.Tests.{not-true, not-false, lt-leb, le-leb}
use Rattle.flume.specs.Flume.{flume_sides_good, flume_cells}
use Rattle.grid.specs.Outcome.{accepted}
use Rattle.flumerecord.specs.Reading.{flume_flags_at}
use Rattle.flumegrid.proofs.GoodSides.{few}
use Rattle.flumerecord.proofs.flags.span.Lts as lts
use Rattle.flumerecord.proofs.flags.span.Reads as reads
use Rattle.flumerecord.proofs.flags.span.Tie as tie
use Rattle.flumerecord.proofs.flags.span.Goals as goal

abbrev At-Else-not-passed : Type 0
At-Else-not-passed = lts.Else1 tie.the-claims reads.Pre reads.Post

abbrev At-Else-not-good_sides : Type 0
At-Else-not-good_sides = lts.Else2 tie.the-claims reads.Pre reads.Post

abbrev At-Start : Type 0
At-Start = lts.Start tie.the-claims reads.Pre reads.Post

-- what each test that held has shown
answered : (c : At-Else-not-passed) → accepted c.args.h.answer ≡ true
answered c = sym c.passed.ensures ∙ not-false _ c.if-not-passed.false-raw

abbrev start : At-Else-not-good_sides → At-Start
start c = c.before.before.before.before.before.before

sided : (c : At-Else-not-good_sides) → flume_sides_good (start c).args.h.sides ≡ true
sided c = sym c.good_sides.ensures ∙ not-false _ c.if-not-good_sides.false-raw

pub returns-then-not-passed : goal.returns-then-not-passed
returns-then-not-passed c = let e = sym c.passed.ensures ∙ not-true _ c.if-not-passed.true-raw in rw e refl

pub returns-then-not-good_sides : goal.returns-then-not-good_sides
returns-then-not-good_sides c =
    let e = sym c.good_sides.ensures ∙ not-true _ c.if-not-good_sides.true-raw in
    rw (answered c.before.before.before.before, e) refl

pub cells-end-requires : goal.cells-end-requires
cells-end-requires c = sided c.before

pub overflow_add-end : goal.overflow_add-end
overflow_add-end c =
    let d = start c.before.before in
    record { fits = omega (arith, c.cells-end.ensures, few d.args.h.sides (sided c.before.before)) }

pub returns-then-rec-end : goal.returns-then-rec-end
returns-then-rec-end c =
    let e = c in
    let a = (start e.before.before.before).args in
    let r = a.rec.now in
    let l = lt-leb (flume_flags_at + flume_cells a.h.sides) (length r) (omega (arith, c.if-rec-end.true, c.cells-end.ensures)) in
    rw (answered e.before.before.before.before.before.before, sided e.before.before.before, l) refl

pub returns : goal.returns
returns c =
    let e = c in
    let a = (start e.before.before.before).args in
    let r = a.rec.now in
    let l = le-leb (flume_flags_at + flume_cells a.h.sides) (length r) (omega (arith, c.if-rec-end.false, c.cells-end.ensures)) in
    rw (answered e.before.before.before.before.before.before, sided e.before.before.before, l) (ap (λ (j : ℕ). record { from = 68; to = 68 + j }) c.cells-end.ensures)
