-- `walks::seeking::past_dry`: n cells more that are dry in both sets at each turn. Assumes nothing.
use Prim.Native.Nat.{◌-◌}
use lib.ListN.{length}
use Rattle.grid.specs.inner.Passes.{Dry}
use Rattle.walks.proofs.seeking.past_dry.Given as goal

abbrev pub invariant-loop-c : goal.invariant-loop-c
invariant-loop-c l = Dry l.flags l.flags2 l.a l.c

abbrev pub decreases-loop-c : goal.decreases-loop-c
decreases-loop-c l = length l.flags - l.c
