-- `surface::excess::total` is the sum over the eighteen directions. Assumes nothing.
use mathlib.Core.Path.{◌≡◌}
use Prim.Native.Nat.{◌*◌, ◌≤◌}
use lib.IntN.{nat_abs}
use Rattle.whole.specs.Fold.{sum}
use Rattle.lattice.specs.inner.Held.{parts_of}
use Rattle.lattice.proofs.Pairs.{off_rest}
use Rattle.surface.proofs.excess.total.Given as goal

abbrev pub invariant-loop-i : goal.invariant-loop-i
invariant-loop-i l = (l.t ≡ sum l.i (off_rest (parts_of l.w))) × (nat_abs l.t ≤ l.i * 1000000)
