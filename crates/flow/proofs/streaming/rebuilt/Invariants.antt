-- `flow::streaming::rebuilt` is what streams into a liquid cell. Each turn stores a pair: i is odd, so that its opposite is i + 1. Assumes nothing.
use mathlib.Core.List.{[]}
use mathlib.Core.Path.{◌≡◌}
use Prim.Native.Nat.{◌+◌, ◌*◌}
use lib.IntN.{pos}
use lib.ListN.{length}
use Rattle.whole.specs.laws.Tab.{Upto}
use Rattle.lattice.specs.declared.Settings.{Settings}
use Rattle.grid.specs.Step.{streamed}
use Rattle.grid.specs.inner.Sight.{box_sight}
use Rattle.flow.proofs.streaming.rebuilt.Given as goal

abbrev pub invariant-loop-pair : goal.invariant-loop-pair
invariant-loop-pair l = (length l.f ≡ 19) × ((g : Settings) → Upto (pos 0) (streamed (box_sight l.flags l.parts [] l.fills l.off l.low g) l.c) l.f (2 * l.pair + 1))
