-- `sweep::asking::surface_next`: sides, length, start, then the words from the start's on. Assumes nothing.
use Rattle.std.proofs.Common.{sym, arith}
use lib.Arith.{lt_of_le-ne}
use Rattle.grid.proofs.Inside.{few}
use Rattle.index.proofs.Answers.{asked, next-sides, next-length, next-outside, next-end, next-found, next-none}
use Rattle.sweep.proofs.asking.surface_next.Goals as goal

pub returns-then-not-good_sides : goal.returns-then-not-good_sides
returns-then-not-good_sides c = next-sides _ _ _ (sym c.if-not-good_sides.ensures)

pub words_of-requires : goal.words_of-requires
words_of-requires c = omega (arith, c.cells-n.ensures, few _ (sym c.if-not-good_sides.ensures))

pub returns-then-words-words_of : goal.returns-then-words-words_of
returns-then-words-words_of c = next-length _ _ _ (sym c.if-not-good_sides.ensures) _ c.cells-n.ensures _ c.words_of.ensures c.if-words-words_of.true

pub returns-then-start-n : goal.returns-then-start-n
returns-then-start-n c = next-outside _ c.args.words.now _ (sym c.if-not-good_sides.ensures) _ c.cells-n.ensures _ c.words_of.ensures c.if-words-words_of.false c.if-start-n.true

pub returns-then-start-n-2 : goal.returns-then-start-n-2
returns-then-start-n-2 c = next-end _ c.args.words.now _ (sym c.if-not-good_sides.ensures) _ c.cells-n.ensures _ c.words_of.ensures c.if-words-words_of.false c.if-start-n-2.true

pub seek-seen-requires : goal.seek-seen-requires
seek-seen-requires c =
    let q = asked _ c.args.words.now (sym c.if-not-good_sides.ensures) _ c.cells-n.ensures _ c.words_of.ensures c.if-words-words_of.false in
    (q.0, q.1, lt_of_le-ne c.if-start-n.false c.if-start-n-2.false)

pub returns-then-cell-n : goal.returns-then-cell-n
returns-then-cell-n c = next-found _ c.args.words.now _ (sym c.if-not-good_sides.ensures) _ c.cells-n.ensures _ c.words_of.ensures c.if-words-words_of.false _ _ c.if-start-n.false c.seek-seen.ensures c.if-cell-n.true

pub returns : goal.returns
returns c = next-none _ c.args.words.now _ (sym c.if-not-good_sides.ensures) _ c.cells-n.ensures _ c.words_of.ensures c.if-words-words_of.false _ _ c.if-start-n.false c.seek-seen.ensures c.if-cell-n.false
