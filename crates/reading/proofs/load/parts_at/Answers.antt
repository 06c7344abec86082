use Rattle.std.proofs.Common.{◌≡◌, refl, ◌+◌, ◌*◌, ◌<◌, pos, length, arith, rules}
use Rattle.std.proofs.Math.ListN.{replicate, length-set}
use Rattle.whole.specs.laws.Tab.{upto_zero, upto-more, upto_all}
use Rattle.record.specs.Bytes.{i32_at}
use Rattle.reading.proofs.load.parts_at.Goals as goal

pub loop-k-init : goal.loop-k-init
loop-k-init c = (refl, upto_zero (pos 0) _ (replicate 19 (pos 0)))

pub loop-k-preserved : goal.loop-k-preserved
loop-k-preserved c = let a = c.args in
    let h : c.loop-k.k < length c.loop-k.v = omega arith in (
      simp length-set c.loop-k.invariant.0,
      upto-more (pos 0) (λ j. i32_at a.rec.now (a.at + 4 * j)) c.loop-k.v c.loop-k.k _ h c.loop-k.invariant.1 (search rules),
    )

pub returns : goal.returns
returns c =
    let e : c.loop-k.k ≡ 19 = omega arith in
    upto_all (pos 0) _ _ 19 c.loop-k.invariant.0 (rw e at c.loop-k.invariant.1)
