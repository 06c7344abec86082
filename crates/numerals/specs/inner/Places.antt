-- Words and lines by their places in a text, as the code finds them. Assumes nothing.
use Rattle.std.specs.Prelude.{◌≡◌, Bool, List, ℕ, ◌+◌, ◌≤◌, ◌<◌, length, drop}
use Rattle.numerals.specs.declared.text.Kind.TheVariants.{Blank, Word}
use Rattle.numerals.specs.declared.text.Span.{Span}
use Rattle.numerals.specs.Text.{of_kind, next_line, from_line, run}

abbrev pub past_at : (ℕ → Bool) → List ℕ → ℕ → ℕ
past_at f s at = at + run f (drop at s)

abbrev pub word_at : List ℕ → ℕ → Span
word_at s at = record { from = past_at (of_kind Blank) s at; to = past_at (of_kind Word) s (past_at (of_kind Blank) s at) }

pub record Next (s : List ℕ) (at r : ℕ) : Type 0 where
  pub rest : drop r s ≡ next_line (drop at s)
  pub low : at ≤ r
  pub on : at < length s → at < r
  pub inside : r ≤ length s

pub record LineIs (s : List ℕ) (n r : ℕ) : Type 0 where
  pub rest : drop r s ≡ from_line n s
  pub inside : r ≤ length s
