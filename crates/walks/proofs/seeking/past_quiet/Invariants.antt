-- `walks::seeking::past_quiet`: 32 cells more without a mark at each turn. Assumes nothing.
use Prim.Native.Nat.{◌-◌}
use lib.ListN.{length}
use Rattle.grid.specs.inner.Passes.{Unmarked}
use Rattle.walks.proofs.seeking.past_quiet.Given as goal

abbrev pub invariant-loop-c : goal.invariant-loop-c
invariant-loop-c l = Unmarked l.marks l.a l.c

abbrev pub decreases-loop-c : goal.decreases-loop-c
decreases-loop-c l = length l.marks - l.c
