-- `walks::seeking::next_wet`: every cell that was passed is dry in both sets. Assumes nothing.
use Rattle.grid.specs.inner.Passes.{Dry}
use Rattle.walks.proofs.seeking.next_wet.Given as goal

abbrev pub invariant-loop-c : goal.invariant-loop-c
invariant-loop-c l = Dry l.flags l.flags2 l.a l.c
