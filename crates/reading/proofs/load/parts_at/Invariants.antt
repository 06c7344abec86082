-- `reading::load::parts_at` reads part after part, four bytes each. Assumes nothing.
use mathlib.Core.Path.{◌≡◌}
use Prim.Native.Nat.{◌+◌, ◌*◌}
use lib.IntN.{pos}
use lib.ListN.{length}
use Rattle.whole.specs.laws.Tab.{Upto}
use Rattle.record.specs.Bytes.{i32_at}
use Rattle.reading.proofs.load.parts_at.Given as goal

abbrev pub invariant-loop-k : goal.invariant-loop-k
invariant-loop-k l = (length l.v ≡ 19) × Upto (pos 0) (λ j. i32_at l.rec (l.at + 4 * j)) l.v l.k
