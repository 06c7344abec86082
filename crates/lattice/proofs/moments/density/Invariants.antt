-- `lattice::moments::density` is the sum of the nineteen parts. Assumes nothing.
use mathlib.Core.Path.{◌≡◌}
use Prim.Native.Nat.{◌+◌, ◌*◌, ◌≤◌}
use lib.IntN.{nat_abs}
use Rattle.whole.specs.Fold.{sum}
use Rattle.lattice.specs.inner.Held.{parts_of}
use Rattle.lattice.proofs.moments.density.Given as goal

abbrev pub invariant-loop-i : goal.invariant-loop-i
invariant-loop-i l = (l.r ≡ sum l.i (parts_of l.f)) × (nat_abs l.r ≤ 1073741824 + l.i * 33554432)
