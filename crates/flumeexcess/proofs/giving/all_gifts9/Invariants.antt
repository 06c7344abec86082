-- `flumeexcess::giving::all_gifts9` adds up what the neighbours give, direction by direction. Assumes nothing.
use mathlib.Core.Path.{◌≡◌}
use Prim.Native.Nat.{◌-◌}
use Rattle.whole.specs.Fold.{sum}
use Rattle.nine.specs.inner.Cells.{part_of9}
use Rattle.excess.proofs.Takes.{sent}
use Rattle.flumeexcess.proofs.giving.all_gifts9.Given as goal

abbrev pub invariant-loop-i : goal.invariant-loop-i
invariant-loop-i l = l.t ≡ sum (l.i - 1) (sent l.flags l.fills (part_of9 l.parts) l.masses l.marks l.off l.low l.k)
