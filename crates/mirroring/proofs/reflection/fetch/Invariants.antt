-- `mirroring::reflection::fetch` writes one part more in each turn, those before stay. Assumes nothing.
use Prim.Native.Nat.{◌+◌}
use lib.IntN.{pos}
use lib.ListN.{get_or}
use Rattle.mirroring.specs.inner.Between.{Fetched}
use Rattle.mirroring.proofs.reflection.fetch.Given as goal

abbrev pub invariant-loop-k : goal.invariant-loop-k
invariant-loop-k l = Fetched l.k l.to (λ j. get_or l.parts (l.from + get_or l.dirs j 0) (pos 0)) l.initial.out l.out
