-- The text: kinds of bytes, runs of a kind, words and lines, by what is left of the text. Assumes nothing.
use Rattle.std.specs.Prelude.{◌≡◌, Bool, true, false, ◌&&◌, ◌||◌, not, cond, List, [], ◌∷◌, ℕ, zero, suc, ◌+◌, ◌≤◌, ◌<◌, leb, eqb, length, take, drop}
use Rattle.numerals.specs.declared.text.Kind.{Kind}
use Rattle.numerals.specs.declared.text.Kind.TheVariants.{Blank, Word, Line, Digit, Nought}

-- space, tab and CR part words
abbrev pub blank : ℕ → Bool
blank b = eqb b 32 || eqb b 9 || eqb b 13

-- a line ends at LF
abbrev pub of_kind : Kind → ℕ → Bool
of_kind Blank b = blank b
of_kind Word b = not (blank b) && not (eqb b 10)
of_kind Line b = not (eqb b 10)
of_kind Digit b = leb 48 b && leb b 57
of_kind Nought b = eqb b 48

-- how many bytes in front pass a test; what they are, and what is behind them
unfoldable pub run : (ℕ → Bool) → List ℕ → ℕ
run f [] = 0
run f (b ∷ t) = elim (f b) [ true ↦ suc (run f t) | false ↦ 0 ]

unfoldable pub ahead : (ℕ → Bool) → List ℕ → List ℕ
ahead f t = take (run f t) t

unfoldable pub behind : (ℕ → Bool) → List ℕ → List ℕ
behind f t = drop (run f t) t

unfoldable pub every : (ℕ → Bool) → List ℕ → Bool
every f t = eqb (run f t) (length t)

-- the next word of the line, empty if there is none, and what follows it
unfoldable pub word : List ℕ → List ℕ
word t = ahead (of_kind Word) (behind (of_kind Blank) t)

unfoldable pub after_word : List ℕ → List ℕ
after_word t = behind (of_kind Word) (behind (of_kind Blank) t)

-- what follows the line; past the end there are empty lines
unfoldable pub next_line : List ℕ → List ℕ
next_line t = drop 1 (behind (of_kind Line) t)

-- line i of the text, from 0, with all that follows it
unfoldable pub from_line : ℕ → List ℕ → List ℕ
from_line zero t = t
from_line (suc i) t = next_line (from_line i t)

-- a letter as a small one
abbrev pub lower : ℕ → ℕ
lower b = cond (leb 65 b && leb b 90) (b + 32) b

-- the same letters, in either case
unfoldable pub alike : List ℕ → List ℕ → Bool
alike [] [] = true
alike [] (b ∷ k) = false
alike (a ∷ w) [] = false
alike (a ∷ w) (b ∷ k) = elim (eqb (lower a) (lower b)) [ true ↦ alike w k | false ↦ false ]

-- names every definition of this file: whoever unfolds this computes with all of them
unfoldable pub open-text : Unit {0}
unfolding run ahead behind every word after_word next_line from_line alike
open-text = tt
