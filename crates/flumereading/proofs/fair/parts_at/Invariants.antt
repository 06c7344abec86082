-- `flumereading::fair::parts_at` reads the nine parts to their places: each turn stores one more. Assumes nothing.
use Prim.Native.Nat.{ℕ, ◌+◌, ◌*◌}
use Rattle.record.specs.Bytes.{i32_at}
use Rattle.nine.proofs.Places.{Filled}
use Rattle.flumereading.proofs.fair.parts_at.Given as goal

abbrev pub invariant-loop-k : goal.invariant-loop-k
invariant-loop-k l = Filled (λ (j : ℕ). i32_at l.rec (l.at + 4 * j)) l.v l.k
