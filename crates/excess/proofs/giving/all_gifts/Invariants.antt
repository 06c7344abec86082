-- `excess::giving::all_gifts` adds up what the neighbours give, direction by direction. Assumes nothing.
use mathlib.Core.Path.{◌≡◌}
use Prim.Native.Nat.{◌-◌}
use Rattle.whole.specs.Fold.{sum}
use Rattle.grid.specs.State.{part_of}
use Rattle.excess.proofs.Takes.{sent}
use Rattle.excess.proofs.giving.all_gifts.Given as goal

abbrev pub invariant-loop-i : goal.invariant-loop-i
invariant-loop-i l = l.t ≡ sum (l.i - 1) (sent l.flags l.fills (part_of l.parts) l.masses l.marks l.off l.low l.k)
