use Rattle.std.proofs.Common.{sym, ap, ◌+◌, ℕ}
use Rattle.spelling.proofs.Widths.{length_digits}
use Rattle.spelling.proofs.Putting.{back-begin, back_more, back_end}
use Rattle.spelling.proofs.spell.put_digits.Goals as goal

pub loop-i-init : goal.loop-i-init
loop-i-init c = back-begin _ _ _ _

pub loop-i-preserved : goal.loop-i-preserved
loop-i-preserved c = back_more _ c.loop-i-test.true c.loop-i.invariant

pub returns : goal.returns
returns c = record { room-is = back_end _ c.loop-i-test.false c.loop-i.invariant; end = sym (ap (λ (k : ℕ). c.args.at + k) (length_digits c.args.k c.args.n)) }
