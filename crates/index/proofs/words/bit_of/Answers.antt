-- `index::words::bit_of`: a power of two for an interface cell, else nothing. Assumes nothing.
use mathlib.Core.Path.{sym, ◌∙◌}
use borrow.Author.Tests.{eq-eqb, ne_eqb}
use Rattle.whole.specs.laws.Bools.{cond_yes, cond_no}
use Rattle.index.proofs.Digits.{one_shifted}
use Rattle.index.proofs.words.bit_of.Goals as goal

pub returns-then-flag-eq1 : goal.returns-then-flag-eq1
returns-then-flag-eq1 c = one_shifted c.args.b c.requires ∙ sym (cond_yes _ _ (eq-eqb _ _ c.if-flag-eq1.true))

pub returns : goal.returns
returns c = sym (cond_no _ _ (ne_eqb _ _ c.if-flag-eq1.false))
