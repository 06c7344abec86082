-- `flumeconversion::birth::newborn9`: visit after visit; the cells passed have their parts, the others are as they were. Assumes nothing.
use mathlib.Core.List.{[]}
use mathlib.Core.Path.{◌≡◌}
use Prim.Native.Nat.{◌-◌, ◌≤◌}
use lib.ListN.{length}
use Rattle.whole.specs.Fold.{all}
use Rattle.conversion.specs.inner.Born.{newly_born, later_fair}
use Rattle.conversion.proofs.Newborns.{Reached}
use Rattle.nine.specs.inner.Cells.{part_of9}
use Rattle.flumearrivals.specs.inner.Seen.{sight9}
use Rattle.flumeconversion.proofs.birth.newborn9.Given as goal

abbrev pub invariant-loop-c : goal.invariant-loop-c
invariant-loop-c l =
    (l.c ≤ length l.flags) × Reached (sight9 l.flags l.parts [] l.fills l.off l.low l.g) (newly_born l.flags l.flags2) (part_of9 l.initial.parts2) (part_of9 l.parts2) l.c
    × (length l.parts2 ≡ length l.initial.parts2) × (l.fair ≡ all l.c (later_fair (sight9 l.flags l.parts [] l.fills l.off l.low l.g) (newly_born l.flags l.flags2)))

abbrev pub decreases-loop-c : goal.decreases-loop-c
decreases-loop-c l = length l.flags - l.c
