-- `spelling::spell::width`: a digit fewer at each turn. Assumes nothing.
use Rattle.spelling.proofs.Putting.{Narrow}
use Rattle.spelling.proofs.spell.width.Given as goal

abbrev pub invariant-loop-m : goal.invariant-loop-m
invariant-loop-m l = Narrow l.n l.w l.m

abbrev pub decreases-loop-m : goal.decreases-loop-m
decreases-loop-m l = l.m
