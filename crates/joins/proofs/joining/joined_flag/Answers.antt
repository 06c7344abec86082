-- `joins::joining::joined_flag` is the joined flag. Assumes nothing.
use borrow.Author.Tests.{eq-eqb, ne_eqb}
use mathlib.Core.Path.{sym}
use Rattle.whole.specs.laws.Bools.{cond_yes, cond_no}
use Rattle.joins.proofs.joining.joined_flag.Goals as goal

pub returns-then-m-eq1 : goal.returns-then-m-eq1
returns-then-m-eq1 c = sym (cond_yes 3 c.args.f (eq-eqb c.args.m 1 c.if-m-eq1.true))

pub returns : goal.returns
returns c = sym (cond_no 3 c.args.f (ne_eqb c.args.m 1 c.if-m-eq1.false))
