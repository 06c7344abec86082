-- `flow::streaming::sources` gives where each part that streams straight in lies: the mirrored offset is the opposite neighbour's. Assumes nothing.
use mathlib.Core.Path.{◌≡◌}
use lib.ListN.{length}
use Rattle.whole.specs.laws.Tab.{Upto}
use Rattle.arrivals.specs.inner.Sources.{source_of}
use Rattle.flow.proofs.streaming.sources.Given as goal

abbrev pub invariant-loop-i : goal.invariant-loop-i
invariant-loop-i l = (length l.f ≡ 19) × Upto 0 (source_of l.off) l.f l.i
