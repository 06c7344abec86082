-- `nine::cells::paste9` writes the nine parts of cell c and leaves the rest: each turn copies one more. Assumes nothing.
use mathlib.Core.Path.{◌≡◌}
use Prim.Native.Nat.{◌*◌}
use lib.Seq.{paste}
use Rattle.nine.specs.inner.Cells.{nine_of}
use Rattle.nine.proofs.cells.paste9.Given as goal

abbrev pub invariant-loop-k : goal.invariant-loop-k
invariant-loop-k l = l.out ≡ paste l.initial.out (9 * l.c) (nine_of l.v) l.k
