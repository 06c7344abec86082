-- `flumeturns::turns::going`: what admits a turn, what a turn keeps, and what a refusal or the last turn ends with. Assumes nothing.
use Rattle.flumestep.proofs.Advances.{soiled}
use Rattle.flumeturns.proofs.Runs.{going-first, going-dry, going_on, going-stops, going-ends}
use Rattle.flumeturns.proofs.turns.going.Goals as goal

pub loop-k-init : goal.loop-k-init
loop-k-init c = let r = soiled c.put_all.ensures c.requires in (r.dried, going-first _ _ _ _ _ _ r.entered)

pub returns-in-Err : goal.returns-in-Err
returns-in-Err c = going-stops _ _ _ _ _ _ c.loop-k-test.true _ _ _ _ _ _ _ _ _ c.in-Err.is c.loop-k.invariant.1 c.turn-a.ensures

pub loop-k-preserved : goal.loop-k-preserved
loop-k-preserved c = (
  going-dry _ _ _ _ _ _ _ _ _ _ _ _ _ _ c.loop-k.invariant.1 c.turn-a.ensures,
  going_on _ _ _ _ _ _ c.loop-k-test.true _ _ _ _ _ _ _ _ c.in_default.is c.loop-k.invariant.1 c.turn-a.ensures,
)

pub returns : goal.returns
returns c = going-ends _ _ _ _ _ _ _ _ _ _ _ _ _ c.loop-k-test.false c.loop-k.invariant.1 c.evened.ensures c.clear.ensures
