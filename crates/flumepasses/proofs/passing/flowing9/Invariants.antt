-- `flumepasses::passing::flowing9`: pass 1. The invariant is Walked: the first c cells have gone through stages 1 to 4; the parts of the others are as they were,
-- so that those of a cell that is dry in the second set are 0 still. Assumes nothing.
use mathlib.Core.Path.{◌≡◌}
use Prim.Native.Nat.{ℕ, ◌-◌, ◌≤◌, ◌<◌}
use lib.ListN.{length}
use Rattle.passes.proofs.Walked.{Walked}
use Rattle.flume.specs.inner.Spread.{spread_lattice}
use Rattle.nine.specs.inner.Cells.{part_of9}
use Rattle.flumepasses.proofs.passing.flowing9.Given as goal

abbrev pub invariant-loop-c : goal.invariant-loop-c
invariant-loop-c l =
    (l.c ≤ length l.flags) × (length l.parts2 ≡ length l.initial.parts2) × (length l.masses2 ≡ length l.initial.masses2) × (length l.marks ≡ length l.initial.marks)
    × Walked spread_lattice.weight l.flags (part_of9 l.parts) l.masses l.fills l.off l.low l.g l.initial.marks (part_of9 l.parts2) l.masses2 l.marks l.fair l.calm l.c
    × ((j k : ℕ) → l.c ≤ j → k < 19 → part_of9 l.parts2 j k ≡ part_of9 l.initial.parts2 j k)

abbrev pub decreases-loop-c : goal.decreases-loop-c
decreases-loop-c l = length l.flags - l.c
