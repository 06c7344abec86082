-- `passes::passing::flowing`: pass 1. The invariant is Walked: the first c cells have gone through stages 1 to 4; the parts of the others are as they were, so that those
-- of a cell that is dry in the second set are 0 still. Assumes nothing.
use mathlib.Core.Path.{◌≡◌}
use Prim.Native.Nat.{ℕ, ◌-◌, ◌≤◌}
use lib.ListN.{length}
use Rattle.lattice.specs.Lattice.{d3q19}
use Rattle.grid.specs.State.{part_of}
use Rattle.passes.proofs.Walked.{Walked}
use Rattle.passes.proofs.passing.flowing.Given as goal

abbrev pub invariant-loop-c : goal.invariant-loop-c
invariant-loop-c l =
    (l.c ≤ length l.flags) × (length l.parts2 ≡ length l.initial.parts2) × (length l.masses2 ≡ length l.initial.masses2) × (length l.marks ≡ length l.initial.marks)
    × Walked d3q19.weight l.flags (part_of l.parts) l.masses l.fills l.off l.low l.g l.initial.marks (part_of l.parts2) l.masses2 l.marks l.fair l.calm l.c
    × ((j k : ℕ) → l.c ≤ j → part_of l.parts2 j k ≡ part_of l.initial.parts2 j k)

abbrev pub decreases-loop-c : goal.decreases-loop-c
decreases-loop-c l = length l.flags - l.c
