-- `numerals::text::same_letters`: the library's own test decides the same. Assumes nothing.
use mathlib.Core.Path.{sym, ◌∙◌}
use Rattle.std.proofs.lemmas.Bool.Decides.{same_from_decides}
use Rattle.std.proofs.lemmas.Slice.Eq.{bytes_eq-Decides}
use Rattle.numerals.proofs.Words.{alike-is}
use Rattle.numerals.proofs.text.same_letters.Goals as goal

pub returns : goal.returns
returns c = same_from_decides _ _ c.eq_ignore_ascii_case.ensures.test (bytes_eq-Decides _ _) ∙ sym (alike-is c.args.w.now c.args.key.now)
