-- `mirroring::reflection::flipped` is x, or n − 1 − x. Assumes nothing.
use Rattle.mirroring.proofs.Reflected.{flip-yes, flip-not}
use Rattle.mirroring.proofs.reflection.flipped.Goals as goal

pub returns-then-turn : goal.returns-then-turn
returns-then-turn c = let w = c in flip-yes w.args.turn w.args.n w.args.x c.if-turn.true w.requires

pub returns : goal.returns
returns c = let w = c in flip-not w.args.turn w.args.n w.args.x c.if-turn.false
