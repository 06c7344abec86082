-- `lattice::rules::all_inside`: whether each of the parts so far is in range. Assumes nothing.
use mathlib.Core.Path.{◌≡◌}
use Rattle.whole.specs.Fold.{all}
use Rattle.lattice.specs.inner.Held.{parts_of}
use Rattle.lattice.specs.Cell.{part_good}
use Rattle.lattice.proofs.rules.all_inside.Given as goal

abbrev pub invariant-loop-v : goal.invariant-loop-v
invariant-loop-v l = l.w ≡ all l.v-index (λ k. part_good (parts_of l.v-items k))
