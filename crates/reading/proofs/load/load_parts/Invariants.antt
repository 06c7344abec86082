-- `reading::load::load_parts` pastes the parts of cell after cell; the place advances as the count of liquid cells does. Assumes nothing.
use mathlib.Core.Path.{◌≡◌}
use mathlib.Core.List.{List}
use Prim.Native.Nat.{ℕ, ◌+◌, ◌*◌}
use lib.IntN.{ℤ, pos}
use Rattle.grid.specs.State.{by_flag, flag_of}
use Rattle.grid.proofs.Blocks.{Blocks}
use Rattle.record.specs.Bytes.{i32_at}
use Rattle.record.specs.Layout.{liquids}
use Rattle.reading.proofs.load.load_parts.Given as goal

-- part k of cell c, by the flags
abbrev pub held : List ℕ → List ℕ → ℕ → ℕ → ℕ → ℤ
held rec flags from c k =
    let x = i32_at rec (from + 4 * (19 * liquids c (flag_of flags) + k)) in by_flag (flag_of flags c) (pos 0) x x (pos 0)

abbrev pub invariant-loop-c : goal.invariant-loop-c
invariant-loop-c l = (l.at ≡ l.from + 76 * liquids l.c (flag_of l.flags)) × Blocks (held l.rec l.flags l.from) l.parts l.c
