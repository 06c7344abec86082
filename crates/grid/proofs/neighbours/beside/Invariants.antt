-- `grid::neighbours::beside` asks all eighteen: at i it has asked the directions below. Assumes nothing.
use mathlib.Core.Path.{◌≡◌}
use mathlib.Core.Bool.{Bool}
use mathlib.Core.List.{List}
use Prim.Native.Nat.{ℕ, suc, ◌+◌, ◌-◌}
use lib.Dec.{eqb}
use lib.ListN.{get_or}
use Rattle.whole.specs.Fold.{any}
use Rattle.grid.proofs.neighbours.beside.Given as goal

-- direction a + 1 has the byte
abbrev pub at : List ℕ → List ℕ → ℕ → ℕ → ℕ → Bool
at bytes off k m a = eqb (get_or bytes (k + get_or off (suc a) 0) 0) m

abbrev pub invariant-loop-i : goal.invariant-loop-i
invariant-loop-i l = l.found ≡ any (l.i - 1) (at l.bytes l.off l.k l.m)
