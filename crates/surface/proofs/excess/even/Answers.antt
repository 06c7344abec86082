-- `surface::excess::even`: the test is the definition's. Assumes nothing.
use borrow.Author.Tests.{eq-eqb, ne_eqb}
use Rattle.surface.proofs.excess.even.Goals as goal

pub returns-then-f-eq1 : goal.returns-then-f-eq1
returns-then-f-eq1 c = rw (eq-eqb c.args.f 1 c.if-f-eq1.true)

pub returns : goal.returns
returns c = rw (ne_eqb c.args.f 1 c.if-f-eq1.false)
