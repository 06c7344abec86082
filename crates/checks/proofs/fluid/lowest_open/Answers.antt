use mathlib.Core.Path.{refl}
use native.Mathlib.Nat.{le_of_eq}
use native.Mathlib.Omega.{arith}
use borrow.Author.Count.{below_more}
use lib.ListN.{length}
use Rattle.grid.proofs.Open.{dry, shut, wet, found, none_found}
use Rattle.checks.proofs.fluid.lowest_open.Goals as goal
use Rattle.checks.proofs.fluid.lowest_open.Goals.{then-flags-c-eq2+else-loop-i-test, else-flags-c-eq2}

pub returns-then-flags-k-eq0 : goal.returns-then-flags-k-eq0
returns-then-flags-k-eq0 c =
    let f = c.args.flags.now in
    let off = c.args.off.now in
    let low = c.args.low in
    found f off low c.loop-c.c c.loop-c-test.true c.loop-c.invariant (wet f off low c.loop-c.c c.if-flags-c-eq2.true c.loop-i.i (omega arith) (omega arith) c.if-flags-k-eq0.true)

pub loop-c-preserved : goal.loop-c-preserved
loop-c-preserved c =
    let f = c.args.flags.now in
    let off = c.args.off.now in
    let low = c.args.low in
    below_more _ _ c.loop-c.invariant
    (elim c.if-flags-c-eq2.branch [
      | then-flags-c-eq2+else-loop-i-test w ↦ shut f off low c.loop-c.c (λ j h. w.loop-i.invariant j (omega (arith, w.loop-i-test.false)))
      | else-flags-c-eq2 w ↦ dry f off low c.loop-c.c w.if-flags-c-eq2.false
    ])

pub returns : goal.returns
returns c =
    let n = length c.args.flags.now in
    none_found c.args.flags.now c.args.off.now c.args.low n (le_of_eq refl) (le_of_eq refl) (λ j h. c.loop-c.invariant j (omega arith))
