-- `numerals::number::ends_well`: the tests in their order. Assumes nothing.
use mathlib.Core.Path.{sym, ◌∙◌}
use borrow.Author.Tests.{not-true, not-false}
use native.Mathlib.Omega.{arith}
use Rattle.numerals.proofs.Digits.{ends-here, ends-one, ends-other, ends-undigit, ends_so}
use Rattle.numerals.proofs.number.ends_well.Goals as goal

pub returns-then-w-k : goal.returns-then-w-k
returns-then-w-k c = ends-here _ _ c.if-w-k.true

pub returns-then-w-k-2 : goal.returns-then-w-k-2
returns-then-w-k-2 c = ends-one _ _ c.if-w-k.false c.if-w-k-2.true

pub returns-then-w-k-ne46 : goal.returns-then-w-k-ne46
returns-then-w-k-ne46 c = ends-other _ _ (omega arith) (omega arith) c.if-w-k-ne46.true

pub returns-then-not-all_from : goal.returns-then-not-all_from
returns-then-not-all_from c = ends-undigit _ _ (omega arith) (omega arith) c.if-w-k-ne46.false (sym c.all_from.ensures ∙ not-true _ c.if-not-all_from.true-raw)

pub returns : goal.returns
returns c = c.all_from-2.ensures ∙ ends_so _ _ (omega arith) (omega arith) c.if-w-k-ne46.false (sym c.all_from.ensures ∙ not-false _ c.if-not-all_from.false-raw)
