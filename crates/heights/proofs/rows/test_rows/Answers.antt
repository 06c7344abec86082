use Rattle.std.proofs.Common.{sym, ◌∙◌}
use Rattle.heights.proofs.Rowing.{pass-begin, pass-more, pass-stop, pass-end}
use Rattle.heights.proofs.rows.test_rows.Goals as goal

pub loop-i-init : goal.loop-i-init
loop-i-init c = pass-begin _ _ _ _ _ c.requires.at_in_bounds c.requires.line_le_at

pub returns-then-not-row_good : goal.returns-then-not-row_good
returns-then-not-row_good c = pass-stop c.loop-i.invariant c.loop-i-test.true (sym c.if-not-row_good.ensures)

pub loop-i-preserved : goal.loop-i-preserved
loop-i-preserved c = pass-more c.requires.le_n c.loop-i.invariant c.loop-i-test.true (sym c.if-not-row_good.ensures) c.next_line-p.ensures

pub returns : goal.returns
returns c = c.tail.ensures ∙ pass-end c.loop-i.invariant c.loop-i-test.false
