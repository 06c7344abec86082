-- `joins::joining::own_flag` is the own flag. Assumes nothing.
use borrow.Author.Tests.{eq-eqb, ne_eqb}
use mathlib.Core.Path.{sym}
use Rattle.whole.specs.laws.Bools.{cond_yes, cond_no}
use Rattle.joins.proofs.joining.own_flag.Goals as goal

pub returns-then-f-eq3 : goal.returns-then-f-eq3
returns-then-f-eq3 c = sym (cond_yes 0 c.args.f (eq-eqb c.args.f 3 c.if-f-eq3.true))

pub returns : goal.returns
returns c = sym (cond_no 0 c.args.f (ne_eqb c.args.f 3 c.if-f-eq3.false))
