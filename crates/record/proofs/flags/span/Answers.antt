-- `record::flags::span`: an accepted head with good sides has its flags where the record's own count says, if they fit. Assumes nothing.
use mathlib.Core.Path.{◌≡◌, refl, sym, ap₂, ◌∙◌}
use mathlib.Core.Bool.{true}
use Prim.Native.Nat.{ℕ, ◌+◌}
use native.Mathlib.Omega.{arith}
use lib.ListN.{length}
use borrow.Author.Tests.{not-true, not-false, lt-leb, le-leb}
use Rattle.grid.specs.Grid.{sides_good, cells_of}
use Rattle.grid.specs.Outcome.{accepted}
use Rattle.grid.proofs.GoodSides.{good-sides}
use Rattle.record.specs.Reading.{flags_at}
use Rattle.record.proofs.FlagPart.{totals-few}
use Rattle.record.proofs.flags.span.Lts as lts
use Rattle.record.proofs.flags.span.Reads as reads
use Rattle.record.proofs.flags.span.Tie as tie
use Rattle.record.proofs.flags.span.Goals as goal

abbrev At-Else-not-passed : Type 0
At-Else-not-passed = lts.Else1 tie.the-claims reads.Pre reads.Post

abbrev At-Else-not-good_sides : Type 0
At-Else-not-good_sides = lts.Else2 tie.the-claims reads.Pre reads.Post

abbrev At-Start : Type 0
At-Start = lts.Start tie.the-claims reads.Pre reads.Post

abbrev At-After-cells : Type 0
At-After-cells = lts.After-cells tie.the-claims reads.Pre reads.Post

-- what each test that held has shown
answered : (c : At-Else-not-passed) → accepted c.args.h.answer ≡ true
answered c = sym c.passed.ensures ∙ not-false _ c.if-not-passed.false-raw

abbrev start : At-Else-not-good_sides → At-Start
start c = c.before.before.before.before.before.before

sided : (c : At-Else-not-good_sides) → sides_good (start c).args.h.sides ≡ true
sided c = sym c.good_sides.ensures ∙ not-false _ c.if-not-good_sides.false-raw

-- the end, as the definition has it
end_is : (c : At-After-cells) → let d = (start c.before.before).args in c.flags_at-at.result + c.cells.result ≡ flags_at d.rec.now + cells_of d.h.sides
end_is c = ap₂ (λ (i j : ℕ). i + j) c.flags_at-at.ensures c.cells.ensures

pub returns-then-not-passed : goal.returns-then-not-passed
returns-then-not-passed c = let e = sym c.passed.ensures ∙ not-true _ c.if-not-passed.true-raw in rw e refl

pub returns-then-not-good_sides : goal.returns-then-not-good_sides
returns-then-not-good_sides c =
    let e = sym c.good_sides.ensures ∙ not-true _ c.if-not-good_sides.true-raw in
    rw (answered c.before.before.before.before, e) refl

pub cells-requires : goal.cells-requires
cells-requires c = sided c.before.before

pub overflow_add-end : goal.overflow_add-end
unfolding cells_of
overflow_add-end c =
    let d = start c.before.before.before in
    record { fits = omega (arith, c.flags_at-at.ensures, totals-few d.args.rec.now, c.cells.ensures, (good-sides d.args.h.sides (sided c.before.before.before)).all) }

pub returns-then-rec-end : goal.returns-then-rec-end
returns-then-rec-end c =
    let e = c in
    let a = (start e.before.before.before.before).args in
    let r = a.rec.now in
    let l = lt-leb (flags_at r + cells_of a.h.sides) (length r) (omega (arith, c.if-rec-end.true, end_is c.before.before)) in
    rw (answered e.before.before.before.before.before.before.before, sided e.before.before.before.before, l) refl

pub returns : goal.returns
returns c =
    let e = c in
    let a = (start e.before.before.before.before).args in
    let r = a.rec.now in
    let l = le-leb (flags_at r + cells_of a.h.sides) (length r) (omega (arith, c.if-rec-end.false, end_is c.before.before)) in
    rw (answered e.before.before.before.before.before.before.before, sided e.before.before.before.before, l) (ap₂ (λ (i j : ℕ). record { from = i; to = j }) c.flags_at-at.ensures (end_is c.before.before))
