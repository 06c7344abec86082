-- `passes::marks::mark_open_by` is pass 0: each cell from the first inner one to the last gets its mark, the others keep theirs. A cell that is passed is not fluid,
-- so that its mark is 0. Assumes nothing.
use Prim.Native.Nat.{◌-◌}
use Rattle.grid.proofs.Ranges.{Ranged}
use Rattle.passes.specs.inner.Marks.{opened_at}
use Rattle.passes.proofs.marks.mark_open_by.Given as goal

abbrev pub invariant-loop-c : goal.invariant-loop-c
invariant-loop-c l = Ranged 0 (opened_at l.flags l.off l.low) l.initial.marks l.low l.end l.marks l.c

abbrev pub decreases-loop-c : goal.decreases-loop-c
decreases-loop-c l = l.end - l.c
