-- `walks::seeking::lacking`: the cells passed are of another kind, as far as it says so. Assumes nothing.
use mathlib.Core.Path.{◌≡◌}
use mathlib.Core.Bool.{not}
use Prim.Native.Nat.{◌+◌}
use lib.Dec.{eqb}
use lib.ListN.{get_or}
use Rattle.whole.specs.Fold.{all}
use Rattle.walks.proofs.seeking.lacking.Given as goal

abbrev pub invariant-loop-k : goal.invariant-loop-k
invariant-loop-k l = l.none ≡ all l.k (λ i. not (eqb (get_or l.flags (l.a + i) 0) l.kind))
