-- `excess::giving::marked_beside` asks all eighteen, one after the other. Assumes nothing.
use mathlib.Core.Path.{◌≡◌}
use Prim.Native.Nat.{suc, ◌-◌}
use Rattle.whole.specs.Fold.{any}
use Rattle.excess.specs.inner.Gifts.{marked_at}
use Rattle.excess.proofs.giving.marked_beside.Given as goal

abbrev pub invariant-loop-i : goal.invariant-loop-i
invariant-loop-i l = l.found ≡ any (l.i - 1) (λ a. marked_at l.marks l.off l.k (suc a))
