-- `checks::layer::first_bad_flag` is test 4's place. The loop walks row by row; no cell passed breaks the rule. Assumes nothing.
use mathlib.Core.Path.{◌≡◌}
use mathlib.Core.Bool.{false}
use Prim.Native.Nat.{ℕ, ◌-◌, ◌≤◌, ◌<◌}
use lib.ListN.{length}
use Rattle.grid.specs.inner.Passes.{RowAt}
use Rattle.grid.proofs.Rows.{bad}
use Rattle.checks.proofs.layer.first_bad_flag.Given as goal

abbrev pub invariant-loop-c : goal.invariant-loop-c
invariant-loop-c l = (l.c ≤ length l.flags) × RowAt l.s l.c l.p × ((k : ℕ) → k < l.c → bad l.s l.flags k ≡ false)

abbrev pub decreases-loop-c : goal.decreases-loop-c
decreases-loop-c l = length l.flags - l.c
