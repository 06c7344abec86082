-- `collision::collide::collided`: each part lands by its end, what they leave of the density is part 0, and where every end tells, each landing is the
-- definition's. Assumes nothing.
use mathlib.Core.List.{List}
use Prim.Native.Nat.{ℕ, ◌-◌}
use lib.ListN.{get_or}
use lib.IntN.{ℤ}
use Rattle.lattice.specs.inner.Held.{parts_of}
use Rattle.landings.specs.inner.Estimate.{landed}
use Rattle.collision.proofs.Turns.{Done}
use Rattle.collision.proofs.collide.collided.Given as goal

-- where part j lands, by the ends e
abbrev pub aimed : List ℕ → List ℤ → ℤ → ℕ → ℤ
aimed e f c j = landed (get_or e (j - 1) 0) (parts_of f j) c

abbrev pub invariant-loop-i : goal.invariant-loop-i
invariant-loop-i l = Done (aimed l.e l.f l.c) l.initial.r l.a l.r l.i
