-- `walks::seeking::next_marked`: no cell that was passed has a mark. Assumes nothing.
use Rattle.grid.specs.inner.Passes.{Unmarked}
use Rattle.walks.proofs.seeking.next_marked.Given as goal

abbrev pub invariant-loop-c : goal.invariant-loop-c
invariant-loop-c l = Unmarked l.marks l.a l.c
