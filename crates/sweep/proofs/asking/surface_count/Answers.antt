-- `sweep::asking::surface_count`: sides, length, then the bits. Assumes nothing.
use Rattle.std.proofs.Common.{sym, arith}
use Rattle.grid.proofs.Inside.{few}
use Rattle.index.proofs.Answers.{asked, count-sides, count-length, count-told}
use Rattle.sweep.proofs.asking.surface_count.Goals as goal

pub returns-then-not-good_sides : goal.returns-then-not-good_sides
returns-then-not-good_sides c = count-sides _ _ (sym c.if-not-good_sides.ensures)

pub words_of-requires : goal.words_of-requires
words_of-requires c = omega (arith, c.cells-n.ensures, few _ (sym c.if-not-good_sides.ensures))

pub returns-then-words-words_of : goal.returns-then-words-words_of
returns-then-words-words_of c = count-length _ _ (sym c.if-not-good_sides.ensures) _ c.cells-n.ensures _ c.words_of.ensures c.if-words-words_of.true

pub how_many-requires : goal.how_many-requires
how_many-requires c = asked _ c.args.words.now (sym c.if-not-good_sides.ensures) _ c.cells-n.ensures _ c.words_of.ensures c.if-words-words_of.false

pub returns : goal.returns
returns c = count-told _ _ (sym c.if-not-good_sides.ensures) _ c.cells-n.ensures _ c.words_of.ensures c.if-words-words_of.false _ c.how_many.ensures
