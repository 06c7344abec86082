-- `profile::testing::tested`: each return is the definition with the tests that led there. Assumes nothing.
use borrow.Author.Tests.{le-leb, lt-leb}
use mathlib.Core.Path.{◌≡◌, sym, ◌∙◌}
use mathlib.Core.Bool.{true}
use native.Mathlib.Omega.{arith}
use lib.Dec.{leb}
use lib.ListN.{length}
use Rattle.grid.proofs.Handed.{handed-on}
use Rattle.profile.specs.Outcome.{tests_answer}
use Rattle.profile.proofs.Passed.{opened, open-refused}
use Rattle.profile.proofs.testing.tested.Goals as goal

pub returns-in_err-opened : goal.returns-in_err-opened
returns-in_err-opened c = handed-on c.from_residual.result c.from_residual.ensures.1 ∙ open-refused _ _ _ _ c.in_err-opened.ensures

pub first_far-out-requires : goal.first_far-out-requires
first_far-out-requires c = (opened _ _ _ _ _ _ _ (sym c.in_ok-opened.ensures)).points-size

pub returns-then-up-m : goal.returns-then-up-m
unfolding tests_answer
returns-then-up-m c = simp (← c.in_ok-opened.ensures, ← c.first_not_above-up.ensures, lt-leb _ _ c.if-up-m.true)

pub returns-then-out-m : goal.returns-then-out-m
unfolding tests_answer
returns-then-out-m c =
    let risen : leb (length c.args.chainages.now) c.first_not_above-up.result ≡ true = le-leb _ _ (omega arith) in
    simp (← c.in_ok-opened.ensures, ← c.first_not_above-up.ensures, risen, ← c.first_far-out.ensures, lt-leb _ _ c.if-out-m.true)

pub columns_tested-requires : goal.columns_tested-requires
columns_tested-requires c = let h = opened _ _ _ _ _ _ _ (sym c.in_ok-opened.ensures) in (h.points-size, h.sides)

pub returns : goal.returns
unfolding tests_answer
returns c =
    let risen : leb (length c.args.chainages.now) c.first_not_above-up.result ≡ true = le-leb _ _ (omega arith) in
    simp (← c.in_ok-opened.ensures, ← c.first_not_above-up.ensures, risen, ← c.first_far-out.ensures, le-leb _ _ c.if-out-m.false)
    c.columns_tested.ensures
