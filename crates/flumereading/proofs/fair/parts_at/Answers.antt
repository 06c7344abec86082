use Rattle.std.proofs.Common.{◌≡◌, ℕ, ◌+◌, ◌*◌, arith, rules}
use Rattle.record.specs.Bytes.{i32_at}
use Rattle.nine.proofs.Places.{filled_zero, filled_more, filled-all}
use Rattle.flumereading.proofs.fair.parts_at.Goals as goal

pub loop-k-init : goal.loop-k-init
loop-k-init c = filled_zero _

pub loop-k-preserved : goal.loop-k-preserved
loop-k-preserved c = let a = c.args in
    filled_more (λ (j : ℕ). i32_at a.rec.now (a.at + 4 * j)) c.loop-k.v c.loop-k.k c.place.result _ c.loop-k.invariant c.loop-k-test.true c.place.ensures.0 c.place.ensures.1 (search rules)

pub returns : goal.returns
returns c =
    let e : c.loop-k.k ≡ 9 = omega arith in
    filled-all _ _ (rw e at c.loop-k.invariant)
