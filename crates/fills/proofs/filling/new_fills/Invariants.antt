-- `fills::filling::new_fills`: from one interface cell to the next; the cells passed have their fills, the others what their flag says. Assumes nothing.
use Prim.Native.Nat.{◌-◌}
use lib.ListN.{length}
use Rattle.grid.specs.State.{part_of}
use Rattle.fills.proofs.Fills.{Passed}
use Rattle.fills.proofs.filling.new_fills.Given as goal

abbrev pub invariant-loop-c : goal.invariant-loop-c
invariant-loop-c l = Passed l.flags (part_of l.parts) l.masses l.initial.fills l.fills l.fair l.c

abbrev pub decreases-loop-c : goal.decreases-loop-c
decreases-loop-c l = length l.flags - l.c
