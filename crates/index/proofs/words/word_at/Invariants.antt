-- `index::words::word_at`: bit after bit the word is the sum of the powers so far; from its end on no cell adds to it. Assumes nothing.
use mathlib.Core.Path.{◌≡◌}
use lib.ListN.{length}
use Rattle.whole.specs.Fold.{total}
use Rattle.index.proofs.Digits.{power}
use Rattle.index.proofs.Flagged.{surface}
use Rattle.index.proofs.words.word_at.Given as goal

abbrev pub invariant-loop-b : goal.invariant-loop-b
invariant-loop-b l = l.w ≡ total l.b (power (surface (length l.flags) l.flags l.k))
