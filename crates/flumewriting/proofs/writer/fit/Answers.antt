-- `flumewriting::writer::fit` goes through tests 1, 2 and 3, and leaves 4 to 6 to the check. Assumes nothing.
use mathlib.Core.Path.{◌≡◌, sym, ap, ◌∙◌}
use mathlib.Core.Bool.{true}
use Prim.Native.Nat.{ℕ}
use native.Mathlib.Omega.{arith}
use borrow.Author.Tests.{not-true, not-false}
use Rattle.grid.specs.Answer.{Answer}
use Rattle.grid.specs.Answer.{Done}
use Rattle.lattice.specs.Lattice.{d2q9}
use Rattle.flume.specs.Flume.{flume_sides_good, flume_cells, flume_grid, flume_lengths}
use Rattle.grid.specs.State.{Lent, lent, state_of}
use Rattle.grid.specs.Outcome.{or_refuse, good_answer}
use Rattle.flumerecord.specs.Layout.{flume_site_good}
use Rattle.flumegrid.proofs.GoodSides.{few}
use Rattle.flumegrid.proofs.Checks.{sized}
use Rattle.record.proofs.Answers.{or-pass, or-fail}
use Rattle.flumewriting.proofs.writer.fit.Lts as lts
use Rattle.flumewriting.proofs.writer.fit.Reads as reads
use Rattle.flumewriting.proofs.writer.fit.Tie as tie
use Rattle.flumewriting.proofs.writer.fit.Goals as goal
use Rattle.grid.specs.declared.refusals.Refusal.TheVariants.{BadLength, BadSetting, BadSides}

abbrev At-Start : Type 0
At-Start = lts.Start tie.the-claims reads.Pre reads.Post

abbrev At-Else-not-good_sides : Type 0
At-Else-not-good_sides = lts.Else1 tie.the-claims reads.Pre reads.Post

abbrev At-After-good_lengths9 : Type 0
At-After-good_lengths9 = lts.After-good_lengths9 tie.the-claims reads.Pre reads.Post

abbrev set : At-Start → Lent
set d = lent d.args.flags.now d.args.parts.now d.args.masses.now d.args.fills.now d.args.carry.now

-- the tests behind each
abbrev good : At-Start → Answer
good d = good_answer d2q9 (flume_grid d.args.s) (state_of 8 (set d)) Done

abbrev three : At-Start → Answer
three d = or_refuse (flume_site_good d.args.g d.args.t) (BadSetting 0) (good d)

abbrev two : At-Start → Answer
two d = or_refuse (flume_lengths (flume_cells d.args.s) (set d)) BadLength (three d)

-- what each test that held has shown
sided : (c : At-Else-not-good_sides) → flume_sides_good c.args.s ≡ true
sided c = sym c.good_sides.ensures ∙ not-false _ c.if-not-good_sides.false-raw

lengths-are : (c : At-After-good_lengths9) → let d = c in c.good_lengths9.result ≡ flume_lengths (flume_cells d.args.s) (set d.before.before.before.before.before.before)
unfolding flume_lengths
lengths-are c = let d = c in c.good_lengths9.ensures ∙ ap (λ (n : ℕ). flume_lengths n (set d.before.before.before.before.before.before)) c.cells-n.ensures

pub returns-then-not-good_sides : goal.returns-then-not-good_sides
returns-then-not-good_sides c = let d = c in sym (or-fail BadSides (two d.before.before.before.before.before) (sym c.good_sides.ensures ∙ not-true _ c.if-not-good_sides.true-raw))

pub cells-n-requires : goal.cells-n-requires
cells-n-requires c = sided c.before

pub good_lengths9-requires : goal.good_lengths9-requires
good_lengths9-requires c = let d = c in omega (arith, c.cells-n.ensures, few d.args.s (sided c.before.before))

pub returns-then-not-good_lengths9 : goal.returns-then-not-good_lengths9
returns-then-not-good_lengths9 c = let d = c in sym (or-pass BadSides (two d.before.before.before.before.before.before.before.before) (sided c.before.before.before.before) ∙ or-fail BadLength (three d.before.before.before.before.before.before.before.before) (sym (lengths-are c.before.before) ∙ not-true _ c.if-not-good_lengths9.true-raw))

pub returns-then-not-good_site : goal.returns-then-not-good_site
returns-then-not-good_site c =
    let d = c in
    sym (or-pass BadSides (two d.before.before.before.before.before.before.before.before.before.before) (sided c.before.before.before.before.before.before)
    ∙ or-pass BadLength (three d.before.before.before.before.before.before.before.before.before.before) (sym (lengths-are c.before.before.before.before) ∙ not-false _ c.if-not-good_lengths9.false-raw)
    ∙ or-fail (BadSetting 0) (good d.before.before.before.before.before.before.before.before.before.before) (sym c.good_site.ensures ∙ not-true _ c.if-not-good_site.true-raw))

pub checked9-requires : goal.checked9-requires
checked9-requires c =
    let d = c in
    (sided c.before.before.before.before.before.before, sized (flume_cells d.args.s) (set d.before.before.before.before.before.before.before.before.before.before) (sym (lengths-are c.before.before.before.before) ∙ not-false _ c.if-not-good_lengths9.false-raw))

pub returns : goal.returns
returns c =
    let d = c in
    c.checked9.ensures
    ∙ sym (or-pass BadSides (two d.before.before.before.before.before.before.before.before.before.before.before) (sided c.before.before.before.before.before.before.before)
    ∙ or-pass BadLength (three d.before.before.before.before.before.before.before.before.before.before.before) (sym (lengths-are c.before.before.before.before.before) ∙ not-false _ c.if-not-good_lengths9.false-raw)
    ∙ or-pass (BadSetting 0) (good d.before.before.before.before.before.before.before.before.before.before.before) (sym c.good_site.ensures ∙ not-false _ c.if-not-good_site.false-raw))
