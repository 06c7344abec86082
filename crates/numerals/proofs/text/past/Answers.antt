use Rattle.std.proofs.Common.{sym, arith}
use Rattle.numerals.specs.Text.{of_kind}
use Rattle.numerals.proofs.Runs.{run_on, run-stop, run_end}
use Rattle.numerals.proofs.text.past.Goals as goal

pub returns-then-not-of_kind : goal.returns-then-not-of_kind
returns-then-not-of_kind c =
    omega (arith, run-stop (of_kind c.args.k) c.args.s.now c.loop-i.i c.loop-i-test.true (sym c.if-not-of_kind.ensures), c.loop-i.invariant)

pub loop-i-preserved : goal.loop-i-preserved
loop-i-preserved c =
    omega (arith, run_on (of_kind c.args.k) c.args.s.now c.loop-i.i c.loop-i-test.true (sym c.if-not-of_kind.ensures), c.loop-i.invariant)

pub returns : goal.returns
returns c = omega (arith, run_end (of_kind c.args.k) c.args.s.now c.loop-i.i (omega arith), c.loop-i.invariant)
