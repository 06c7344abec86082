-- `conversion::birth::mean_flow`: the sums over the directions passed, and their means. Assumes nothing.
use Prim.Native.Nat.{◌-◌}
use Rattle.lattice.specs.Lattice.{d3q19}
use Rattle.grid.specs.State.{part_of}
use Rattle.conversion.proofs.Means.{Summed}
use Rattle.conversion.proofs.birth.mean_flow.Given as goal

abbrev pub invariant-loop-i : goal.invariant-loop-i
invariant-loop-i l = Summed d3q19.weight l.flags (part_of l.parts) l.fills l.off l.low l.g l.c (l.i - 1) l.t
