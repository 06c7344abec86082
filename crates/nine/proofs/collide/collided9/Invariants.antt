-- `nine::collide::collided9`: pair by pair each part lands by its end, an idle one at 0, what the pairs leave of the density is part 0, and where the low
-- words tell, each landing is the definition's. Assumes nothing.
use mathlib.Core.List.{List}
use Prim.Native.Nat.{ℕ, ◌+◌, ◌-◌, ◌*◌}
use lib.ListN.{get_or}
use lib.IntN.{ℤ}
use Rattle.lattice.specs.inner.Held.{parts_of}
use Rattle.landings.specs.inner.Estimate.{landed}
use Rattle.collision.proofs.Turns.{Done}
use Rattle.nine.proofs.collide.collided9.Given as goal

-- where part j lands, by the ends e
abbrev pub aimed : List ℕ → List ℤ → ℤ → ℕ → ℤ
aimed e f c j = landed (get_or e (j - 1) 0) (parts_of f j) c

abbrev pub invariant-loop-h : goal.invariant-loop-h
invariant-loop-h l = Done (aimed l.e l.f l.c) l.initial.r l.a l.r (2 * l.h + 1)
