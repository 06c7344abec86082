-- `writing::put::put_cell` writes part after part, four bytes each. Assumes nothing.
use mathlib.Core.Path.{◌≡◌}
use Prim.Native.Nat.{◌+◌}
use lib.IntN.{pos}
use lib.ListN.{get_or}
use lib.Seq.{sets}
use Rattle.record.specs.Bytes.{gathered, i32_of}
use Rattle.writing.proofs.put.put_cell.Given as goal

abbrev pub invariant-loop-k : goal.invariant-loop-k
invariant-loop-k l = l.room ≡ sets l.initial.room l.at (gathered l.k (λ j. i32_of (get_or l.parts (l.from + j) (pos 0))))
