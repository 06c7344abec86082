use mathlib.Core.Path.{◌≡◌, subst}
use Prim.Native.Nat.{ℕ}
use native.Mathlib.Omega.{arith}
use lib.ListN.{length}
use Rattle.whole.specs.laws.Tab.{Upto, upto-more, upto_all}
use Rattle.fills.specs.inner.Filled.{plain_at}
use Rattle.fills.proofs.filling.plain_fills.Goals as goal

pub loop-c-preserved : goal.loop-c-preserved
unfolding plain_at
loop-c-preserved c = upto-more 0 (plain_at c.args.flags.now) c.loop-c.fills c.loop-c.c c.plain_fill.result (omega arith) c.loop-c.invariant c.plain_fill.ensures

pub returns : goal.returns
returns c =
    let n = length c.args.flags.now in
    let e : c.loop-c.c ≡ n = omega arith in
    upto_all 0 (plain_at c.args.flags.now) c.loop-c.fills n (omega arith) (subst (λ (m : ℕ). Upto 0 (plain_at c.args.flags.now) c.loop-c.fills m) e c.loop-c.invariant)
