use mathlib.Core.Path.{sym, ◌∙◌}
use native.Mathlib.Omega.{arith}
use lib.ListN.{length}
use Rattle.index.specs.Index.{index}
use Rattle.index.proofs.Flagged.{untrue-word, counted-true}
use Rattle.index.proofs.keeping.agrees.Goals as goal

pub returns-then-w-word_at : goal.returns-then-w-word_at
returns-then-w-word_at c =
    untrue-word (length c.args.flags.now) c.args.flags.now (index c.args.words.now c.args.count.now) c.loop-k.k (omega arith) (λ e. c.if-w-word_at.true (e ∙ sym c.word_at.ensures))

pub returns : goal.returns
returns c =
    counted-true (length c.args.flags.now) c.args.flags.now (index c.args.words.now c.args.count.now) (λ k h. c.loop-k.invariant k (omega arith)) c.how_many.result c.how_many.ensures
