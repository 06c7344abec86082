-- `excess::straying::new_carry` is pass 5: the carry and what strayed from the cells passed. Assumes nothing.
use mathlib.Core.Path.{◌≡◌}
use Prim.Native.Nat.{◌-◌, ◌≤◌}
use lib.IntN.{◌+ℤ◌}
use lib.ListN.{length}
use Rattle.whole.specs.Fold.{sum}
use Rattle.grid.specs.State.{part_of}
use Rattle.excess.specs.inner.Gifts.{stray_at}
use Rattle.excess.proofs.straying.new_carry.Given as goal

abbrev pub invariant-loop-c : goal.invariant-loop-c
invariant-loop-c l = (l.c ≤ length l.marks) × (l.t ≡ l.carry +ℤ sum l.c (stray_at l.flags (part_of l.parts) l.masses l.marks l.off l.low))

abbrev pub decreases-loop-c : goal.decreases-loop-c
decreases-loop-c l = length l.marks - l.c
