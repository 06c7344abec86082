-- `excess::leaning::weights`: e·n of each direction, where positive and a target, stored direction by direction. Assumes nothing.
use mathlib.Core.Path.{◌≡◌}
use lib.IntN.{pos}
use lib.ListN.{length}
use Rattle.whole.specs.laws.Tab.{Upto}
use Rattle.excess.specs.inner.Gifts.{of_dir}
use Rattle.excess.proofs.Leans.{by_dots}
use Rattle.excess.proofs.leaning.weights.Given as goal

abbrev pub invariant-loop-i : goal.invariant-loop-i
invariant-loop-i l = (length l.w ≡ 19) × Upto (pos 0) (of_dir (by_dots l.flags l.off l.k l.d)) l.w l.i
