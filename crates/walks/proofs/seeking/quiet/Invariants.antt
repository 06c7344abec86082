-- `walks::seeking::quiet`: the cells passed have no mark, as far as it says so. Assumes nothing.
use mathlib.Core.Path.{◌≡◌}
use Prim.Native.Nat.{◌+◌}
use lib.Dec.{eqb}
use lib.ListN.{get_or}
use Rattle.whole.specs.Fold.{all}
use Rattle.walks.proofs.seeking.quiet.Given as goal

abbrev pub invariant-loop-k : goal.invariant-loop-k
invariant-loop-k l = l.none ≡ all l.k (λ i. eqb (get_or l.marks (l.a + i) 0) 0)
