-- `spelling::spell::put_digits`: the digits from the last on. Assumes nothing.
use Rattle.spelling.proofs.Putting.{Backwards}
use Rattle.spelling.proofs.spell.put_digits.Given as goal

abbrev pub invariant-loop-i : goal.invariant-loop-i
invariant-loop-i l = Backwards l.initial.room l.room l.at l.k l.n l.i l.m
