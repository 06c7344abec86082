-- `checks::fluid::any_open`: where the loop found none, no cell is open; what it does not look at is not fluid. Assumes nothing.
use mathlib.Core.Path.{◌≡◌}
use mathlib.Core.Bool.{false}
use Prim.Native.Nat.{ℕ, ◌≤◌, ◌<◌}
use Rattle.grid.specs.inner.Passes.{open_at}
use Rattle.checks.proofs.fluid.any_open.Given as goal

abbrev pub invariant-loop-c : goal.invariant-loop-c
invariant-loop-c l = l.found ≡ false → (j : ℕ) → j < l.c → l.low ≤ j → open_at l.flags l.off l.low j ≡ false
