-- `index::keeping::make_words`: word after word. Assumes nothing.
use lib.ListN.{length}
use Rattle.whole.specs.laws.Tab.{Upto}
use Rattle.index.specs.Index.{word_of}
use Rattle.index.proofs.keeping.make_words.Given as goal

abbrev pub invariant-loop-k : goal.invariant-loop-k
invariant-loop-k l = Upto 0 (word_of (length l.flags) l.flags) l.words l.k
