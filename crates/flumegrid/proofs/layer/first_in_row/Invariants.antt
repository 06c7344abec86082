-- `flumegrid::layer::first_in_row`: no cell of the row that was passed breaks the rule. Assumes nothing.
use mathlib.Core.Path.{◌≡◌}
use mathlib.Core.Bool.{false}
use Prim.Native.Nat.{ℕ, ◌+◌, ◌<◌}
use Rattle.flumegrid.specs.inner.Layer.{bad_at}
use Rattle.flumegrid.proofs.layer.first_in_row.Given as goal

abbrev pub invariant-loop-x : goal.invariant-loop-x
invariant-loop-x l = (k : ℕ) → k < l.x → bad_at l.s l.flags (l.c + k) ≡ false
