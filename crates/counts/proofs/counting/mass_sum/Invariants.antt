-- `counts::counting::mass_sum` adds up the masses passed. Assumes nothing.
use mathlib.Core.Path.{◌≡◌}
use Prim.Native.Nat.{◌*◌, ◌≤◌}
use lib.IntN.{nat_abs}
use Rattle.counts.proofs.Addends.{mass_in}
use Rattle.counts.proofs.counting.mass_sum.Given as goal

abbrev pub invariant-loop-mass : goal.invariant-loop-mass
invariant-loop-mass l = (l.sum ≡ mass_in l.masses l.mass-index) × (nat_abs (mass_in l.masses l.mass-index) ≤ l.mass-index * 2147483648)
