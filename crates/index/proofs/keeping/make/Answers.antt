-- `index::keeping::make`: the words by the flags, and the number of their set bits. Assumes nothing.
use mathlib.Core.Path.{ap, ◌∙◌}
use native.Mathlib.Omega.{arith}
use lib.ListN.{length}
use Rattle.whole.specs.laws.Tab.{length-tab}
use Rattle.index.specs.Index.{words_of, word_of}
use Rattle.index.proofs.Flagged.{made}
use Rattle.index.proofs.keeping.make.Goals as goal

pub make_words-requires : goal.make_words-requires
make_words-requires c =
    let w = c in
    (w.requires.few, w.requires.words)

pub how_many-requires : goal.how_many-requires
how_many-requires c =
    let w = c in
    (w.requires.few, ap length c.make_words.ensures ∙ length-tab (words_of (length w.args.flags.now)) (word_of (length w.args.flags.now) w.args.flags.now))

pub bounds-count-0 : goal.bounds-count-0
bounds-count-0 c =
    let w = c in
    omega (arith, w.requires.count)

pub returns : goal.returns
returns c =
    let w = c in
    made (length w.args.flags.now) w.args.flags.now _ w.args.count.now c.how_many.result c.make_words.ensures w.requires.count c.how_many.ensures
