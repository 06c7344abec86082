-- `lattice::rules::all_zero`: whether each of the parts so far is 0. Assumes nothing.
use mathlib.Core.Path.{◌≡◌}
use lib.IntN.{pos}
use Rattle.whole.specs.Fold.{all}
use Rattle.lattice.specs.inner.Held.{parts_of}
use Rattle.lattice.specs.Body.{eq_z}
use Rattle.lattice.proofs.rules.all_zero.Given as goal

abbrev pub invariant-loop-v : goal.invariant-loop-v
invariant-loop-v l = l.w ≡ all l.v-index (λ k. eq_z (parts_of l.v-items k) (pos 0))
