-- `flumeflow::trading::traded_mass9`: the mass and what is gained from the directions passed, two a turn. Assumes nothing.
use mathlib.Core.Path.{◌≡◌}
use Prim.Native.Nat.{◌*◌}
use Rattle.flumeflow.proofs.Gains.{gained9}
use Rattle.flumeflow.proofs.trading.traded_mass9.Given as goal

abbrev pub invariant-loop-pair : goal.invariant-loop-pair
invariant-loop-pair l = l.m ≡ gained9 l.flags l.parts l.masses l.fills l.off l.low l.c (2 * l.pair)
