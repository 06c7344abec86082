use mathlib.Core.Path.{◌≡◌}
use Prim.Native.Nat.{ℕ, ◌+◌}
use native.Mathlib.Omega.{arith}
use borrow.Author.Rules.{rules}
use lib.IntN.{pos}
use lib.ListN.{get_or}
use Rattle.nine.proofs.Places.{filled_zero, filled_more, filled-all}
use Rattle.flumeflow.proofs.streaming.streamed_open9.Goals as goal

pub loop-k-init : goal.loop-k-init
loop-k-init c = filled_zero _

pub loop-k-preserved : goal.loop-k-preserved
loop-k-preserved c =
    filled_more (λ (j : ℕ). get_or c.args.parts.now (c.args.a + get_or c.args.from.now j 0) (pos 0)) _ _ _ _ c.loop-k.invariant (omega arith) c.place.ensures.0 c.place.ensures.1 (search rules)

pub returns : goal.returns
returns c =
    let e : c.loop-k.k ≡ 9 = omega arith in
    filled-all _ _ (rw e at c.loop-k.invariant)
