use Rattle.std.proofs.Common.{sym, ◌∙◌, length, arith, below_more}
use Rattle.schemes.proofs.Passing.{open-found, open_none}
use Rattle.schemes.proofs.testing.first_open.Goals as goal

pub returns-then-open_at : goal.returns-then-open_at
returns-then-open_at c = open-found c.requires c.loop-c.c c.loop-c.invariant c.loop-c-test.true (sym c.open_at.ensures ∙ c.if-open_at.true)

pub loop-c-preserved : goal.loop-c-preserved
loop-c-preserved c = below_more _ _ c.loop-c.invariant (sym c.open_at.ensures ∙ c.if-open_at.false)

pub returns : goal.returns
returns c = open_none c.requires (length c.args.own.now) (λ j h. c.loop-c.invariant j (omega arith)) (omega arith)
