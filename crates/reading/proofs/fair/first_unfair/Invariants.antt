-- `reading::fair::first_unfair`: every cell passed keeps its rules, and the places advance as the counts do. Assumes nothing.
use mathlib.Core.Path.{◌≡◌}
use mathlib.Core.Bool.{true}
use Prim.Native.Nat.{ℕ, ◌+◌, ◌*◌, ◌<◌}
use Rattle.grid.specs.State.{flag_of}
use Rattle.record.specs.Layout.{interfaces, liquids}
use Rattle.record.specs.inner.Passes.{fair_at}
use Rattle.reading.proofs.fair.first_unfair.Given as goal

abbrev pub invariant-loop-c : goal.invariant-loop-c
invariant-loop-c l =
    (l.m ≡ l.masses + 4 * interfaces l.c (flag_of l.flags))
    × (l.p ≡ l.parts + 76 * liquids l.c (flag_of l.flags))
    × ((j : ℕ) → j < l.c → fair_at l.rec l.flags l.masses l.parts j ≡ true)
