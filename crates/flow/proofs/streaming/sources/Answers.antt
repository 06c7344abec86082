use native.Mathlib.Omega.{arith}
use lib.ListN.{length-set}
use Rattle.whole.specs.laws.Tab.{upto-more, upto_all}
use Rattle.arrivals.proofs.Arrivals.{source_is}
use Rattle.flow.proofs.streaming.sources.Goals as goal

pub loop-i-preserved : goal.loop-i-preserved
loop-i-preserved c =
    let l = c.loop-i.invariant in
    (simp length-set l.0, upto-more 0 _ _ _ _ (omega arith) l.1 (source_is _ _ _ c.requires (omega arith)))

pub returns : goal.returns
returns c = let l = c.loop-i.invariant in upto_all 0 _ _ 19 l.0 (λ j h. l.1 j (omega arith))
