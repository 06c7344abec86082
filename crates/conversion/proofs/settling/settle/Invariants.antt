-- `conversion::settling::settle` is pass 7: the cells before c are settled and have no mark, the others are as they were. Assumes nothing.
use mathlib.Core.Path.{◌≡◌}
use Prim.Native.Nat.{◌-◌}
use lib.ListN.{length}
use Rattle.grid.specs.State.{part_of}
use Rattle.conversion.proofs.Settles.{Upon}
use Rattle.conversion.proofs.settling.settle.Given as goal

abbrev pub invariant-loop-c : goal.invariant-loop-c
invariant-loop-c l = (length l.parts ≡ length l.initial.parts) × Upon (part_of l.initial.parts) l.initial.masses l.initial.marks (part_of l.parts) l.masses l.marks l.c

abbrev pub decreases-loop-c : goal.decreases-loop-c
decreases-loop-c l = length l.initial.marks - l.c
