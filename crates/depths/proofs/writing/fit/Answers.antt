-- `depths::writing::fit` goes through tests 1, 2 and 3, and leaves 4 to 6 to the check with three totals. Assumes nothing.
use mathlib.Core.Path.{◌≡◌, sym, ap, ◌∙◌}
use mathlib.Core.Bool.{true}
use Prim.Native.Nat.{ℕ}
use native.Mathlib.Omega.{arith}
use borrow.Author.Tests.{not-true, not-false}
use Rattle.grid.specs.Answer.{Answer}
use Rattle.grid.specs.Answer.{Done}
use Rattle.grid.specs.Grid.{sides_good, cells_of}
use Rattle.grid.specs.State.{Lent, lent}
use Rattle.grid.specs.Outcome.{or_refuse}
use Rattle.pumps.specs.Three.{three_lengths, three_good}
use Rattle.grid.proofs.GoodSides.{good-sides}
use Rattle.depths.specs.Outcome.{corner_good}
use Rattle.record.proofs.Answers.{or-pass, or-fail}
use Rattle.depths.proofs.writing.fit.Lts as lts
use Rattle.depths.proofs.writing.fit.Reads as reads
use Rattle.depths.proofs.writing.fit.Tie as tie
use Rattle.depths.proofs.writing.fit.Goals as goal
use Rattle.grid.specs.declared.refusals.Refusal.TheVariants.{BadLength, BadSetting, BadSides}

abbrev At-Start : Type 0
At-Start = lts.Start tie.the-claims reads.Pre reads.Post

abbrev At-Else-not-good_sides : Type 0
At-Else-not-good_sides = lts.Else1 tie.the-claims reads.Pre reads.Post

abbrev At-After-three_lengths : Type 0
At-After-three_lengths = lts.After-three_lengths tie.the-claims reads.Pre reads.Post

abbrev set : At-Start → Lent
set d = lent d.args.flags.now d.args.parts.now d.args.masses.now d.args.fills.now d.args.carry.now

-- the tests behind each
abbrev good : At-Start → Answer
good d = three_good d.args.s (set d) Done

abbrev three : At-Start → Answer
three d = or_refuse (corner_good d.args.t) (BadSetting 0) (good d)

abbrev two : At-Start → Answer
two d = or_refuse (three_lengths (cells_of d.args.s) (set d)) BadLength (three d)

-- what each test that held has shown
sided : (c : At-Else-not-good_sides) → sides_good c.args.s ≡ true
sided c = sym c.good_sides.ensures ∙ not-false _ c.if-not-good_sides.false-raw

lengths-are : (c : At-After-three_lengths) → let d = c in c.three_lengths.result ≡ three_lengths (cells_of d.args.s) (set d.before.before.before.before.before.before)
unfolding three_lengths
lengths-are c = let d = c in c.three_lengths.ensures ∙ ap (λ (n : ℕ). three_lengths n (set d.before.before.before.before.before.before)) c.cells-n.ensures

pub returns-then-not-good_sides : goal.returns-then-not-good_sides
returns-then-not-good_sides c = let d = c in sym (or-fail BadSides (two d.before.before.before.before.before) (sym c.good_sides.ensures ∙ not-true _ c.if-not-good_sides.true-raw))

pub cells-n-requires : goal.cells-n-requires
cells-n-requires c = sided c.before

pub three_lengths-requires : goal.three_lengths-requires
unfolding cells_of
three_lengths-requires c = let d = c in omega (arith, c.cells-n.ensures, (good-sides d.args.s (sided c.before.before)).all)

pub returns-then-not-three_lengths : goal.returns-then-not-three_lengths
returns-then-not-three_lengths c = let d = c in sym (or-pass BadSides (two d.before.before.before.before.before.before.before.before) (sided c.before.before.before.before) ∙ or-fail BadLength (three d.before.before.before.before.before.before.before.before) (sym (lengths-are c.before.before) ∙ not-true _ c.if-not-three_lengths.true-raw))

pub returns-then-not-good_corner : goal.returns-then-not-good_corner
returns-then-not-good_corner c =
    let d = c in
    sym (or-pass BadSides (two d.before.before.before.before.before.before.before.before.before.before) (sided c.before.before.before.before.before.before)
    ∙ or-pass BadLength (three d.before.before.before.before.before.before.before.before.before.before) (sym (lengths-are c.before.before.before.before) ∙ not-false _ c.if-not-three_lengths.false-raw)
    ∙ or-fail (BadSetting 0) (good d.before.before.before.before.before.before.before.before.before.before) (sym c.good_corner.ensures ∙ not-true _ c.if-not-good_corner.true-raw))

pub checked-requires : goal.checked-requires
checked-requires c =
    (sided c.before.before.before.before.before.before, sym (lengths-are c.before.before.before.before) ∙ not-false _ c.if-not-three_lengths.false-raw)

pub returns : goal.returns
returns c =
    let d = c in
    c.checked.ensures
    ∙ sym (or-pass BadSides (two d.before.before.before.before.before.before.before.before.before.before.before) (sided c.before.before.before.before.before.before.before)
    ∙ or-pass BadLength (three d.before.before.before.before.before.before.before.before.before.before.before) (sym (lengths-are c.before.before.before.before.before) ∙ not-false _ c.if-not-three_lengths.false-raw)
    ∙ or-pass (BadSetting 0) (good d.before.before.before.before.before.before.before.before.before.before.before) (sym c.good_corner.ensures ∙ not-false _ c.if-not-good_corner.false-raw))
