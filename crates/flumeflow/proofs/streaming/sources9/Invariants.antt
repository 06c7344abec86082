-- `flumeflow::streaming::sources9` gives where each part that streams straight in lies: the mirrored offset is the opposite neighbour's. Assumes nothing.
use mathlib.Core.Path.{◌≡◌}
use lib.ListN.{length}
use Rattle.whole.specs.laws.Tab.{Upto}
use Rattle.flumearrivals.specs.inner.Seen.{source_of9}
use Rattle.flumeflow.proofs.streaming.sources9.Given as goal

abbrev pub invariant-loop-k : goal.invariant-loop-k
invariant-loop-k l = (length l.f ≡ 9) × Upto 0 (source_of9 l.off) l.f l.k
