-- `schemes::testing::first_wet`: no wall passed is wet. Assumes nothing.
use mathlib.Core.Path.{◌≡◌}
use mathlib.Core.Bool.{false}
use Prim.Native.Nat.{ℕ, ◌<◌}
use Rattle.schemes.specs.Scheme.{wet_wall}
use Rattle.schemes.proofs.testing.first_wet.Given as goal

abbrev pub invariant-loop-c : goal.invariant-loop-c
invariant-loop-c l = (j : ℕ) → j < l.c → wet_wall l.map l.own j ≡ false
