-- `grid::cells::own` reads the nineteen parts of cell c, in order: each turn stores one more. Assumes nothing.
use mathlib.Core.Path.{◌≡◌}
use Prim.Native.Nat.{◌+◌, ◌*◌}
use lib.IntN.{pos}
use lib.ListN.{length, get_or}
use Rattle.whole.specs.laws.Tab.{Upto}
use Rattle.grid.proofs.cells.own.Given as goal

abbrev pub invariant-loop-k : goal.invariant-loop-k
invariant-loop-k l = (length l.v ≡ 19) × Upto (pos 0) (λ j. get_or l.parts (19 * l.c + j) (pos 0)) l.v l.k
