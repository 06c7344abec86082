-- `index::keeping::agrees`: each word passed is the flags', and then the count decides. Assumes nothing.
use mathlib.Core.Path.{◌≡◌}
use Prim.Native.Nat.{ℕ, ◌<◌}
use lib.ListN.{length, get_or}
use Rattle.index.specs.Index.{word_of}
use Rattle.index.proofs.keeping.agrees.Given as goal

abbrev pub invariant-loop-k : goal.invariant-loop-k
invariant-loop-k l = (j : ℕ) → j < l.k → get_or l.words j 0 ≡ word_of (length l.flags) l.flags j
