-- `numerals::text::is_word`: neither a blank nor the line's end. Assumes nothing.
use mathlib.Core.Path.{sym, ◌∙◌}
use Rattle.numerals.proofs.text.is_word.Goals as goal

pub returns-then-is_blank : goal.returns-then-is_blank
returns-then-is_blank c = simp (sym c.is_blank.ensures ∙ c.if-is_blank.true)

pub returns : goal.returns
returns c = simp (sym c.is_blank.ensures ∙ c.if-is_blank.false)
