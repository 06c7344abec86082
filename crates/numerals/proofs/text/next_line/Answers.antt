-- `numerals::text::next_line`: past the LF, or the text's end. Assumes nothing.
use Rattle.numerals.proofs.Runs.{next-in, next-out}
use Rattle.numerals.proofs.text.next_line.Goals as goal

pub returns-then-end-s : goal.returns-then-end-s
returns-then-end-s c = next-in _ _ _ c.requires c.past-end.ensures c.if-end-s.true

pub returns : goal.returns
returns c = next-out _ _ _ c.requires c.past-end.ensures c.if-end-s.false
