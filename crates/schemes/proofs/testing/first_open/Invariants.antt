-- `schemes::testing::first_open` is test 5's place in the joined grid. Assumes nothing.
use mathlib.Core.Path.{◌≡◌}
use mathlib.Core.Bool.{false}
use Prim.Native.Nat.{ℕ, ◌<◌}
use Rattle.schemes.specs.inner.Between.{opened}
use Rattle.schemes.proofs.testing.first_open.Given as goal

abbrev pub invariant-loop-c : goal.invariant-loop-c
invariant-loop-c l = (j : ℕ) → j < l.c → opened l.s l.map l.own j ≡ false
