-- `walks::seeking::next_of`: no cell that was passed is of the kind. Assumes nothing.
use Rattle.grid.specs.inner.Passes.{Lacking}
use Rattle.walks.proofs.seeking.next_of.Given as goal

abbrev pub invariant-loop-c : goal.invariant-loop-c
invariant-loop-c l = Lacking l.flags l.a l.kind l.c
