-- `passes::marks::mark_span`: the cells from a to c − 1 have their mark. Assumes nothing.
use Rattle.passes.specs.inner.Marks.{opened_at}
use Rattle.passes.specs.inner.Stretch.{Stretch}
use Rattle.passes.proofs.marks.mark_span.Given as goal

abbrev pub invariant-loop-c : goal.invariant-loop-c
invariant-loop-c l = Stretch 0 (opened_at l.flags l.off l.low) l.a l.c l.initial.marks l.marks
