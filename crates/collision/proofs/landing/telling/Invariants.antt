-- `collision::landing::telling`: whether each of the estimates so far tells. Assumes nothing.
use mathlib.Core.Path.{◌≡◌}
use Rattle.whole.specs.Fold.{all}
use Rattle.landings.specs.inner.Estimate.{tells_at}
use Rattle.collision.proofs.landing.telling.Given as goal

abbrev pub invariant-loop-k : goal.invariant-loop-k
invariant-loop-k l = l.w ≡ all l.k (tells_at l.e l.f l.c)
