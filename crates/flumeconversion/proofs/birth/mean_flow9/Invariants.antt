-- `flumeconversion::birth::mean_flow9`: the sums over the directions passed, and their means. Assumes nothing.
use Prim.Native.Nat.{◌-◌}
use Rattle.flume.specs.inner.Spread.{spread_lattice}
use Rattle.nine.specs.inner.Cells.{part_of9}
use Rattle.conversion.proofs.Means.{Summed}
use Rattle.flumeconversion.proofs.birth.mean_flow9.Given as goal

abbrev pub invariant-loop-i : goal.invariant-loop-i
invariant-loop-i l = Summed spread_lattice.weight l.flags (part_of9 l.parts) l.fills l.off l.low l.g l.c (l.i - 1) l.t
