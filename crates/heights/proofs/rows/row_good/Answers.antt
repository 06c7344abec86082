use Rattle.std.proofs.Common.{sym, ap, ◌∙◌}
use Rattle.numerals.specs.Number.{number_of}
use Rattle.heights.specs.Rows.{is_whole_number}
use Rattle.numerals.proofs.Words.{found}
use Rattle.heights.proofs.Rowing.{row-begin, row_more, row-stop, row-end}
use Rattle.heights.proofs.rows.row_good.Goals as goal

pub loop-init : goal.loop-init
loop-init c = row-begin _ _ _ c.requires

pub slice_bounds-number_of-count : goal.slice_bounds-number_of-count
slice_bounds-number_of-count c = (found c.loop.invariant.inside c.next_word-w.ensures).ordered

pub slice_bounds-number_of-start : goal.slice_bounds-number_of-start
slice_bounds-number_of-start c = (found c.loop.invariant.inside c.next_word-w.ensures).ordered

pub slice_bounds-number_of-end : goal.slice_bounds-number_of-end
slice_bounds-number_of-end c = (found c.loop.invariant.inside c.next_word-w.ensures).inside

pub returns-then-not-whole_number : goal.returns-then-not-whole_number
returns-then-not-whole_number c =
    let f = found c.loop.invariant.inside c.next_word-w.ensures in
    row-stop c.loop.invariant c.loop-test.true (sym (c.if-not-whole_number.ensures ∙ ap is_whole_number (c.number_of.ensures ∙ ap number_of f.bytes)))

pub loop-preserved : goal.loop-preserved
loop-preserved c =
    let f = found c.loop.invariant.inside c.next_word-w.ensures in
    row_more c.loop.invariant c.loop-test.true f (sym (c.if-not-whole_number.ensures ∙ ap is_whole_number (c.number_of.ensures ∙ ap number_of f.bytes)))

pub returns : goal.returns
returns c = row-end c.loop.invariant c.loop-test.false (found c.loop.invariant.inside c.next_word-w-2.ensures)
