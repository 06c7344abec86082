use Rattle.std.proofs.Common.{sym, ◌∙◌, arith}
use Rattle.console.proofs.Decimals.{none, begins, goes_on, stops, ends}
use Rattle.console.proofs.decimal.count.Goals as goal

pub returns-then-text-eq0 : goal.returns-then-text-eq0
returns-then-text-eq0 c = none _ _ c.if-text-eq0.true

pub loop-d-init : goal.loop-d-init
loop-d-init c = begins _ _ (omega arith)

pub returns-in_err-n : goal.returns-in_err-n
returns-in_err-n c = c.from_residual.ensures ∙ stops c.loop-d.invariant c.loop-d-test.true (sym c.in_err-n.ensures)

pub loop-d-preserved : goal.loop-d-preserved
loop-d-preserved c = goes_on c.loop-d.invariant c.loop-d-test.true (sym c.in_ok-n.ensures)

pub returns : goal.returns
returns c = ends c.loop-d.invariant c.loop-d-test.false
