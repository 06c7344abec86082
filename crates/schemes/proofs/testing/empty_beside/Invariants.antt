-- `schemes::testing::empty_beside` asks all eighteen: before the turn at i it has asked the directions 1 to i − 1. Assumes nothing.
use Rattle.std.proofs.Common.{◌≡◌, ℕ, suc, ◌+◌, ◌-◌, Bool, ◌&&◌, not, eqb, List, get_or}
use Rattle.whole.specs.Fold.{any}
use Rattle.schemes.proofs.testing.empty_beside.Given as goal

-- direction a + 1 leads to an empty cell
abbrev pub at : List ℕ → List ℕ → List ℕ → ℕ → ℕ → Bool
at map own off k a = not (eqb (get_or map (k + get_or off (suc a) 0) 0) 1) && eqb (get_or own (k + get_or off (suc a) 0) 0) 0

abbrev pub invariant-loop-i : goal.invariant-loop-i
invariant-loop-i l = l.found ≡ any (l.i - 1) (at l.map l.own l.off l.k)
