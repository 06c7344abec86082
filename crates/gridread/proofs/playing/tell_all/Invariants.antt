-- `gridread::playing::tell_all` goes from request to request and ends. Assumes nothing.
use Prim.Native.Nat.{◌-◌}
use Rattle.gridread.proofs.playing.tell_all.Given as goal

abbrev pub decreases-loop-at : goal.decreases-loop-at
decreases-loop-at g l = l.count - l.at
