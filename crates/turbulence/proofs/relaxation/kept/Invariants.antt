-- `turbulence::relaxation::kept`: no tension keeps p, and a digit is added only where p is still kept. Assumes nothing.
use Prim.Native.Nat.{◌+◌, ◌*◌, ◌≤◌}
use Rattle.turbulence.specs.inner.Post.{Keeps}
use Rattle.turbulence.proofs.relaxation.kept.Given as goal

abbrev pub invariant-loop-d : goal.invariant-loop-d
invariant-loop-d l = Keeps l.p l.k × (l.k + 2 * l.d ≤ 1125899906842624)

abbrev pub decreases-loop-d : goal.decreases-loop-d
decreases-loop-d l = l.d
