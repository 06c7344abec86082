-- `flumeflow::streaming::streamed_open9` reads nine parts to their places: each turn stores one more. Assumes nothing.
use Prim.Native.Nat.{ℕ, ◌+◌}
use lib.IntN.{pos}
use lib.ListN.{get_or}
use Rattle.nine.proofs.Places.{Filled}
use Rattle.flumeflow.proofs.streaming.streamed_open9.Given as goal

abbrev pub invariant-loop-k : goal.invariant-loop-k
invariant-loop-k l = Filled (λ (j : ℕ). get_or l.parts (l.a + get_or l.from j 0) (pos 0)) l.f l.k
