use native.Mathlib.Omega.{arith}
use lib.ListN.{length-set}
use Rattle.whole.specs.laws.Tab.{upto-more, upto_all}
use Rattle.flumearrivals.proofs.Nines.{source_is}
use Rattle.flumeflow.proofs.streaming.sources9.Goals as goal

pub overflow_sub-f : goal.overflow_sub-f
overflow_sub-f c = omega (arith, c.requires.pair _ c.place.ensures.1)

pub loop-k-preserved : goal.loop-k-preserved
loop-k-preserved c =
    let l = c.loop-k.invariant in
    (simp length-set l.0, upto-more 0 _ _ _ _ (omega arith) l.1 (source_is _ _ _ _ c.requires (omega arith) c.place.ensures.0))

pub returns : goal.returns
returns c = let l = c.loop-k.invariant in upto_all 0 _ _ 9 l.0 (λ j h. l.1 j (omega arith))
