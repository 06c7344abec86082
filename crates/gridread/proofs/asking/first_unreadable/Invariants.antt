-- `gridread::asking::first_unreadable` goes from request to request and ends. Assumes nothing.
use Prim.Native.Nat.{◌-◌}
use Rattle.gridread.proofs.asking.first_unreadable.Given as goal

abbrev pub decreases-loop-at : goal.decreases-loop-at
decreases-loop-at g l = l.count - l.at
