-- `flumegrid::checking::first_bad9` is test 6's place: every cell passed keeps the rules. Assumes nothing.
use mathlib.Core.Path.{◌≡◌}
use mathlib.Core.Bool.{true}
use mathlib.Core.List.{[], ◌∷◌}
use Prim.Native.Nat.{ℕ, ◌<◌}
use lib.IntN.{pos}
use Rattle.lattice.specs.Lattice.{d2q9}
use Rattle.grid.specs.State.{lent, state_of}
use Rattle.grid.specs.Good.{cell_good}
use Rattle.flumegrid.proofs.checking.first_bad9.Given as goal

abbrev pub invariant-loop-c : goal.invariant-loop-c
invariant-loop-c l = (j : ℕ) → j < l.c → cell_good d2q9 (state_of 8 (lent l.flags l.parts l.masses l.fills (pos 0 ∷ []))) j ≡ true
