-- `sweep::asking::seek`: each word passed has no set bit from the start on. Assumes nothing.
use Prim.Native.Nat.{◌<◌}
use Rattle.index.proofs.Questions.{Going}
use Rattle.sweep.proofs.asking.seek.Given as goal

abbrev pub invariant-loop-k : goal.invariant-loop-k
invariant-loop-k l = (h : l.start < l.n) → Going l.n l.words l.start h l.k l.b l.read
