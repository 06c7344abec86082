-- `flumeconversion::settling::settle9` is pass 7: the cells before c are settled and have no mark, the others are as they were. Assumes nothing.
use mathlib.Core.Path.{◌≡◌}
use Prim.Native.Nat.{◌-◌}
use lib.ListN.{length}
use Rattle.nine.specs.inner.Cells.{part_of9}
use Rattle.conversion.proofs.Settles.{Upon}
use Rattle.flumeconversion.proofs.settling.settle9.Given as goal

abbrev pub invariant-loop-c : goal.invariant-loop-c
invariant-loop-c l = (length l.parts ≡ length l.initial.parts) × Upon (part_of9 l.initial.parts) l.initial.masses l.initial.marks (part_of9 l.parts) l.masses l.marks l.c

abbrev pub decreases-loop-c : goal.decreases-loop-c
decreases-loop-c l = length l.initial.marks - l.c
