-- `flumegrid::layer::first_bad_flag` is test 4's place. The loop walks row by row; no cell passed breaks the rule. Assumes nothing.
use mathlib.Core.Path.{◌≡◌}
use mathlib.Core.Bool.{false}
use Prim.Native.Nat.{ℕ, ◌*◌, ◌<◌}
use Rattle.flumegrid.specs.inner.Layer.{bad_at}
use Rattle.flumegrid.proofs.layer.first_bad_flag.Given as goal

abbrev pub invariant-loop-z : goal.invariant-loop-z
invariant-loop-z l = (l.c ≡ l.s.nx * l.z) × ((k : ℕ) → k < l.c → bad_at l.s l.flags k ≡ false)
