-- `writing::put::put_parts`: the place advances as the count of liquid cells does. Assumes nothing.
use mathlib.Core.Path.{◌≡◌}
use mathlib.Core.List.{List}
use Prim.Native.Nat.{ℕ, ◌+◌, ◌*◌}
use lib.IntN.{ℤ, pos}
use lib.ListN.{get_or}
use lib.Seq.{sets}
use Rattle.grid.specs.State.{flag_of}
use Rattle.record.specs.Layout.{liquids, part_numbers}
use Rattle.writing.proofs.put.put_parts.Given as goal

abbrev pub part-at : ℕ → List ℤ → ℕ → ℕ → ℤ
part-at w parts c k = get_or parts (w * c + k) (pos 0)

abbrev pub invariant-loop-c : goal.invariant-loop-c
invariant-loop-c l = (l.at ≡ l.from + 4 * l.w * liquids l.c (flag_of l.flags)) × (l.room ≡ sets l.initial.room l.from (part_numbers l.w l.c (flag_of l.flags) (part-at l.w l.parts)))
