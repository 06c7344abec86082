-- `flumeflow::streaming::streamed9` is what streams into a liquid cell. Each turn stores a pair: k is odd, and its opposite k + 1 stands at the next place.
-- Assumes nothing.
use mathlib.Core.List.{[]}
use Prim.Native.Nat.{ℕ, ◌+◌, ◌*◌}
use Rattle.grid.specs.Step.{streamed}
use Rattle.flume.specs.inner.Spread.{wide}
use Rattle.nine.proofs.Places.{Filled}
use Rattle.flumearrivals.specs.inner.Seen.{sight9}
use Rattle.lattice.specs.declared.Settings.{Settings}
use Rattle.flumeflow.proofs.streaming.streamed9.Given as goal

abbrev pub invariant-loop-pair : goal.invariant-loop-pair
invariant-loop-pair l = (g : Settings) → Filled (λ (j : ℕ). streamed (sight9 l.flags l.parts [] l.fills l.off l.low g) l.c (wide j)) l.f (2 * l.pair + 1)
