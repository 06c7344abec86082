-- `flow::streaming::streamed_open` reads nineteen parts at given places of a part of the list: each turn stores one more. Assumes nothing.
use mathlib.Core.Path.{◌≡◌}
use lib.IntN.{pos}
use lib.ListN.{length, get_or}
use Rattle.whole.specs.laws.Tab.{Upto}
use Rattle.flow.proofs.streaming.streamed_open.Given as goal

abbrev pub invariant-loop-i : goal.invariant-loop-i
invariant-loop-i l = (length l.f ≡ 19) × Upto (pos 0) (λ j. get_or l.here (get_or l.from j 0) (pos 0)) l.f l.i
