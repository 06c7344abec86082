-- `walks::seeking::dry`: the cells passed are dry in both sets, as far as it says so. Assumes nothing.
use mathlib.Core.Path.{◌≡◌}
use mathlib.Core.Bool.{not}
use Prim.Native.Nat.{◌+◌}
use Rattle.whole.specs.Fold.{all}
use Rattle.grid.specs.inner.Passes.{either_liquid}
use Rattle.walks.proofs.seeking.dry.Given as goal

abbrev pub invariant-loop-k : goal.invariant-loop-k
invariant-loop-k l = l.none ≡ all l.k (λ i. not (either_liquid l.flags l.flags2 (l.a + i)))
