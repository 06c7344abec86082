-- `pools::flood::flood`: every liquid cell below c has its mark. Assumes nothing.
use Rattle.pools.specs.inner.Flood.{Flooded}
use Rattle.pools.proofs.flood.flood.Given as goal

abbrev pub invariant-loop-c : goal.invariant-loop-c
invariant-loop-c l = Flooded l.s l.flags l.marks l.work l.c l.found.tail l.found.pools
