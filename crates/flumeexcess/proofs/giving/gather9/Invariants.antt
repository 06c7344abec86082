-- `flumeexcess::giving::gather9` is pass 6. It writes cells whose new flag is interface and reads masses of marked cells, which never are; so what it reads is
-- what was there at first. Assumes nothing.
use Prim.Native.Nat.{◌-◌}
use lib.IntN.{pos}
use lib.ListN.{length}
use Rattle.grid.proofs.Ranges.{Ranged}
use Rattle.excess.specs.inner.Gifts.{gathered_at}
use Rattle.nine.specs.inner.Cells.{part_of9}
use Rattle.flumeexcess.proofs.giving.gather9.Given as goal

abbrev pub invariant-loop-c : goal.invariant-loop-c
invariant-loop-c l = Ranged (pos 0) (gathered_at l.flags l.fills (part_of9 l.parts) l.initial.masses l.marks l.off l.low) l.initial.masses 0 (length l.flags) l.masses l.c

abbrev pub decreases-loop-c : goal.decreases-loop-c
decreases-loop-c l = length l.flags - l.c
