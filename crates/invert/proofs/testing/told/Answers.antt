-- `invert::testing::told` is the head of an answer. Assumes nothing.
use mathlib.Core.Path.{sym, ◌∙◌}
use borrow.Author.Tests.{not-true, not-false}
use Rattle.invert.proofs.Tested.{told-no, told-yes}
use Rattle.invert.proofs.testing.told.Goals as goal

pub returns-then-not-passed : goal.returns-then-not-passed
returns-then-not-passed c =
    let a = c.args in
    c.refused.ensures ∙ told-no a.s a.g a.t (sym c.passed.ensures ∙ not-true _ c.if-not-passed.true-raw)

pub returns : goal.returns
returns c =
    let a = c.args in
    told-yes a.a a.s a.g a.t (sym c.passed.ensures ∙ not-false _ c.if-not-passed.false-raw)
