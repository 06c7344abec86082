-- `conversion::convert::new_flags_by` is pass 3: each cell has its new flag, or is as it was and no mark before c turns it. Assumes nothing.
use Prim.Native.Nat.{◌-◌}
use lib.ListN.{length}
use Rattle.conversion.proofs.Around.{Underway}
use Rattle.conversion.proofs.convert.new_flags_by.Given as goal

abbrev pub invariant-loop-c : goal.invariant-loop-c
invariant-loop-c l = Underway l.flags l.marks l.off l.low l.next l.c

abbrev pub decreases-loop-c : goal.decreases-loop-c
decreases-loop-c l = length l.marks - l.c
