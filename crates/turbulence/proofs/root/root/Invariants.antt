-- `turbulence::root::root`: the number is never below the root, and where its square is not above n it is the root. Assumes nothing.
use Prim.Native.Nat.{◌+◌, ◌*◌, ◌≤◌, ◌<◌}
use Rattle.turbulence.proofs.root.root.Given as goal

abbrev pub invariant-loop-r : goal.invariant-loop-r
invariant-loop-r l = (l.n < (l.r + 1) * (l.r + 1)) × (l.r ≤ 1073741824)

abbrev pub decreases-loop-r : goal.decreases-loop-r
decreases-loop-r l = l.r
