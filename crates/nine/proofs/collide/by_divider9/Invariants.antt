-- `nine::collide::by_divider9`: pair by pair each part is the definition's, from parts that wait as they were, and what the pairs leave of the density
-- is part 0. Assumes nothing.
use Prim.Native.Nat.{◌+◌, ◌*◌}
use Rattle.collision.proofs.Collision.{formed}
use Rattle.collision.proofs.Turns.{Done, Waiting}
use Rattle.flume.specs.inner.Spread.{spread_lattice}
use Rattle.nine.proofs.collide.by_divider9.Given as goal

abbrev pub invariant-loop-h : goal.invariant-loop-h
invariant-loop-h l = Done (formed spread_lattice l.initial.f l.d l.k) l.initial.r l.f l.r (2 * l.h + 1) × Waiting l.initial.f l.f (2 * l.h + 1)
