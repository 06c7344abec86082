-- `collision::collide::by_divider`: pair by pair each part is the definition's, from parts that wait as they were, and what the pairs leave of the density
-- is part 0. Assumes nothing.
use Prim.Native.Nat.{◌+◌, ◌*◌}
use Rattle.lattice.specs.Lattice.{d3q19}
use Rattle.collision.proofs.Collision.{formed}
use Rattle.collision.proofs.Turns.{Done, Waiting}
use Rattle.collision.proofs.collide.by_divider.Given as goal

abbrev pub invariant-loop-h : goal.invariant-loop-h
invariant-loop-h l = Done (formed d3q19 l.initial.f l.d l.k) l.initial.r l.f l.r (2 * l.h + 1) × Waiting l.initial.f l.f (2 * l.h + 1)
