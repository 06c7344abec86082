-- `conversion::convert::turn_around`: the cell is written first, then the neighbours that the directions 1 to i − 1 lead to. Assumes nothing.
use mathlib.Core.Path.{◌≡◌}
use Prim.Native.Nat.{ℕ, ◌-◌}
use lib.ListN.{get_or}
use Rattle.conversion.proofs.Around.{partly}
use Rattle.conversion.proofs.convert.turn_around.Given as goal

abbrev pub invariant-loop-i : goal.invariant-loop-i
invariant-loop-i l = (b : ℕ) → get_or l.next b 0 ≡ partly l.flags l.off l.low l.c l.kind (l.i - 1) (get_or l.initial.next b 0) b
