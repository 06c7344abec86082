-- `nine::cells::own9` reads the nine parts of cell c to their places: each turn stores one more. Assumes nothing.
use Prim.Native.Nat.{ℕ, ◌+◌, ◌*◌}
use lib.IntN.{pos}
use lib.ListN.{get_or}
use Rattle.nine.proofs.Places.{Filled}
use Rattle.nine.proofs.cells.own9.Given as goal

abbrev pub invariant-loop-k : goal.invariant-loop-k
invariant-loop-k l = Filled (λ (j : ℕ). get_or l.parts (9 * l.c + j) (pos 0)) l.v l.k
