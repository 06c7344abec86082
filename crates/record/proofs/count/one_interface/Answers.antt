-- `record::count::one_interface` is 1 at an interface cell. Assumes nothing.
use borrow.Author.Tests.{ne_eqb}
use Rattle.record.proofs.count.one_interface.Goals as goal

pub returns-then-flag-eq1 : goal.returns-then-flag-eq1
returns-then-flag-eq1 c = simp c.if-flag-eq1.true

pub returns : goal.returns
returns c = simp (ne_eqb _ 1 c.if-flag-eq1.false)
