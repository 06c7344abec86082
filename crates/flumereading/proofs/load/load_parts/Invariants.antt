-- `flumereading::load::load_parts` stores part after part; the place goes on as the count of liquid cells does. Assumes nothing.
use mathlib.Core.Path.{◌≡◌}
use mathlib.Core.List.{List}
use Prim.Native.Nat.{ℕ, ◌+◌, ◌*◌, ◌/◌, ◌%◌}
use lib.IntN.{ℤ, pos}
use Rattle.whole.specs.laws.Tab.{Upto}
use Rattle.grid.specs.State.{by_flag, flag_of}
use Rattle.record.specs.Bytes.{i32_at}
use Rattle.record.specs.Layout.{liquids}
use Rattle.flumereading.proofs.load.load_parts.Given as goal

-- part m of the list, by the flags
abbrev pub held : List ℕ → List ℕ → ℕ → ℕ → ℤ
held rec flags from m =
    let x = i32_at rec (from + 4 * (9 * liquids (m / 9) (flag_of flags) + m % 9)) in by_flag (flag_of flags (m / 9)) (pos 0) x x (pos 0)

abbrev pub invariant-loop-m : goal.invariant-loop-m
invariant-loop-m l = (l.at ≡ l.from + 36 * liquids (l.m / 9) (flag_of l.flags)) × Upto (pos 0) (held l.rec l.flags l.from) l.parts l.m
