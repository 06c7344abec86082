-- `nine::cells::quieted` copies the nine parts to their places: each turn stores one more, and the idle ones are 0 in both. Assumes nothing.
use Prim.Native.Nat.{ℕ}
use lib.IntN.{pos}
use lib.ListN.{get_or}
use Rattle.flume.specs.inner.Spread.{wide}
use Rattle.nine.proofs.Places.{Filled}
use Rattle.nine.proofs.cells.quieted.Given as goal

abbrev pub invariant-loop-k : goal.invariant-loop-k
invariant-loop-k l = Filled (λ (j : ℕ). get_or l.v (wide j) (pos 0)) l.r l.k
