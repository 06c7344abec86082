use Rattle.std.proofs.Common.{refl, sym, arith}
use Rattle.heights.proofs.Rowing.{tail_more, tail-stop, tail-end}
use Rattle.heights.proofs.rows.tail.Goals as goal

pub loop-p-init : goal.loop-p-init
loop-p-init c = record { low = omega arith; left = refl }

pub returns-then-is_word : goal.returns-then-is_word
returns-then-is_word c = tail-stop c.loop-p.invariant c.loop-p-test.true (sym c.if-is_word.ensures)

pub line_after-i-requires : goal.line_after-i-requires
line_after-i-requires c = omega (arith, c.loop-p.invariant.low)

pub loop-p-preserved : goal.loop-p-preserved
loop-p-preserved c = tail_more c.loop-p.invariant c.loop-p-test.true (sym c.if-is_word.ensures) c.line_after-i.ensures

pub returns : goal.returns
returns c = tail-end c.loop-p.invariant c.loop-p-test.false
