-- `numerals::text::of_kind`: by the kind. Assumes nothing.
use mathlib.Core.Path.{◌≡◌, sym, ap, ◌∙◌}
use Prim.Native.Nat.{ℕ}
use Rattle.numerals.specs.declared.text.Kind.{Kind}
use Rattle.numerals.specs.Text.{of_kind}
use Rattle.numerals.proofs.text.of_kind.Goals as goal

by_kind : {j k : Kind} (b : ℕ) → k ≡ j → of_kind j b ≡ of_kind k b
by_kind b e = ap (λ (k : Kind). of_kind k b) (sym e)

pub returns-in-Blank : goal.returns-in-Blank
returns-in-Blank c = c.is_blank.ensures ∙ by_kind _ c.in-Blank.is

pub returns-in-Word : goal.returns-in-Word
returns-in-Word c = c.is_word.ensures ∙ by_kind _ c.in-Word.is

pub returns-in-Line : goal.returns-in-Line
returns-in-Line c = by_kind _ c.in-Line.is

pub returns-in-Digit : goal.returns-in-Digit
returns-in-Digit c = c.is_ascii_digit.ensures.value ∙ by_kind _ c.in-Digit.is

pub returns-in-Nought : goal.returns-in-Nought
returns-in-Nought c = by_kind _ c.in-Nought.is
