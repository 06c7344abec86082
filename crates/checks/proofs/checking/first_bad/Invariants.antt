-- `checks::checking::first_bad` is test 6's place: every cell passed keeps the rules. Assumes nothing.
use mathlib.Core.Path.{◌≡◌}
use mathlib.Core.Bool.{true}
use mathlib.Core.List.{[], ◌∷◌}
use Prim.Native.Nat.{ℕ, ◌<◌}
use lib.IntN.{pos}
use Rattle.lattice.specs.Lattice.{d3q19}
use Rattle.grid.specs.State.{lent, state_of}
use Rattle.grid.specs.Good.{cell_good}
use Rattle.checks.proofs.checking.first_bad.Given as goal

abbrev pub invariant-loop-c : goal.invariant-loop-c
invariant-loop-c l = (j : ℕ) → j < l.c → cell_good d3q19 (state_of 18 (lent l.flags l.parts l.masses l.fills (pos 0 ∷ []))) j ≡ true
