-- `index::counting::how_many`: word after word the sum is the count below, and of the last word the bits below n. Assumes nothing.
use mathlib.Core.Path.{◌≡◌}
use Prim.Native.Nat.{◌*◌}
use Rattle.whole.specs.Fold.{count}
use Rattle.index.specs.Index.{is_set}
use Rattle.index.proofs.counting.how_many.Given as goal

abbrev pub invariant-loop-w : goal.invariant-loop-w
invariant-loop-w l = l.sum ≡ count (64 * l.w-index) (is_set l.words)
