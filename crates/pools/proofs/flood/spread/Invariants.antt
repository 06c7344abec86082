-- `pools::flood::spread`: each direction that was looked at leads to no liquid cell without a mark. Assumes nothing.
use Rattle.pools.proofs.Flooding.{Around}
use Rattle.pools.proofs.flood.spread.Given as goal

abbrev pub invariant-loop-i : goal.invariant-loop-i
invariant-loop-i l = Around l.fn.s l.flags l.d l.initial.marks l.initial.work l.tail l.marks l.work l.end l.i
