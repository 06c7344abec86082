-- `conversion::emptying::settle_marks_by` is pass 2. It changes only marks 2, and looks only for marks 1, so what it finds at each cell is what was there at first.
-- Assumes nothing.
use Prim.Native.Nat.{◌-◌}
use lib.ListN.{length}
use Rattle.grid.specs.inner.Passes.{kept_by}
use Rattle.grid.proofs.Ranges.{Ranged}
use Rattle.conversion.proofs.emptying.settle_marks_by.Given as goal

abbrev pub invariant-loop-c : goal.invariant-loop-c
invariant-loop-c l = Ranged 0 (kept_by l.initial.marks l.off l.low) l.initial.marks 0 (length l.initial.marks) l.marks l.c

abbrev pub decreases-loop-c : goal.decreases-loop-c
decreases-loop-c l = length l.initial.marks - l.c
