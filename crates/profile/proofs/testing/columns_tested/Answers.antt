-- `profile::testing::columns_tested`: the first column that fails, refused as depth refuses it. Assumes nothing.
use borrow.Author.Tests.{le-leb, lt-leb}
use mathlib.Core.Path.{sym, ◌∙◌}
use Rattle.grid.proofs.Handed.{handed-on}
use Rattle.profile.specs.Outcome.{columns_answer}
use Rattle.profile.proofs.Passed.{refused-alike}
use Rattle.profile.proofs.testing.columns_tested.Goals as goal

pub returns-in_err-look : goal.returns-in_err-look
unfolding columns_answer
returns-in_err-look c =
    handed-on c.from_residual.result c.from_residual.ensures.1
    ∙ simp (← c.first_broken-i.ensures, lt-leb _ _ c.if-i-m.true) (sym (refused-alike c.in_err-look.ensures))

pub returns-in_ok-look : goal.returns-in_ok-look
unfolding columns_answer
returns-in_ok-look c = simp (← c.first_broken-i.ensures, lt-leb _ _ c.if-i-m.true) (sym (refused-alike c.in_ok-look.ensures))

pub returns-else-i-m : goal.returns-else-i-m
unfolding columns_answer
returns-else-i-m c = simp (← c.first_broken-i.ensures, le-leb _ _ c.if-i-m.false)
