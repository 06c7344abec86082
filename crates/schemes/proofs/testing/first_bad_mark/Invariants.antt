-- `schemes::testing::first_bad_mark` is test 4's place: no cell passed breaks the rule. Assumes nothing.
use mathlib.Core.Path.{◌≡◌}
use mathlib.Core.Bool.{false, not}
use Prim.Native.Nat.{ℕ, ◌<◌}
use Rattle.schemes.specs.Scheme.{mark_good}
use Rattle.schemes.proofs.testing.first_bad_mark.Given as goal

abbrev pub invariant-loop-c : goal.invariant-loop-c
invariant-loop-c l = (j : ℕ) → j < l.c → not (mark_good l.s l.map l.own j) ≡ false
