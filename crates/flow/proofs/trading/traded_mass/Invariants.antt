-- `flow::trading::traded_mass`: the mass and what is gained from the directions passed, two a turn. Assumes nothing.
use mathlib.Core.Path.{◌≡◌}
use Prim.Native.Nat.{◌*◌}
use Rattle.grid.specs.State.{part_of}
use Rattle.arrivals.proofs.Trades.{gained}
use Rattle.flow.proofs.trading.traded_mass.Given as goal

abbrev pub invariant-loop-pair : goal.invariant-loop-pair
invariant-loop-pair l = l.m ≡ gained l.flags (part_of l.parts) l.masses l.fills l.off l.low l.c (2 * l.pair)
