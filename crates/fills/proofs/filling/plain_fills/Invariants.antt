-- `fills::filling::plain_fills` stores what each flag says: cell by cell. Assumes nothing.
use Rattle.whole.specs.laws.Tab.{Upto}
use Rattle.fills.specs.inner.Filled.{plain_at}
use Rattle.fills.proofs.filling.plain_fills.Given as goal

abbrev pub invariant-loop-c : goal.invariant-loop-c
invariant-loop-c l = Upto 0 (plain_at l.flags) l.fills l.c
