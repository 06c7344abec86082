-- A header that can be read has its six lines: each has its keyword, so that more than seven bytes stand before the rows, and a line's number never passes
-- its place in the text. Assumes nothing.
use Rattle.std.proofs.Common.{Option, Some, None, Result, Ok, Err}
use mathlib.Core.Path.{◌≡◌, refl, sym, ap, ◌∙◌}
use mathlib.Core.Bool.{Bool, true, false, not, cond, false≢true}
use mathlib.Core.List.{List, [], ◌∷◌}
use Prim.Native.Nat.{ℕ, suc, ◌+◌, ◌≤◌}
use native.Mathlib.Nat.{zero-add}
use native.Mathlib.Omega.{arith}
use borrow.Author.Tests.{eqb-true}
use lib.Dec.{eqb}
use lib.IntN.{ℤ}
use lib.ListN.{length, drop, length-drop}
use lib.Seq.{length-take-le}
use Rattle.whole.specs.laws.Bools.{and_right}
use Rattle.numerals.specs.declared.text.Kind.TheVariants.{Blank, Word, Line}
use Rattle.heights.specs.declared.header.Key.{Key}
use Rattle.heights.specs.declared.header.Key.TheVariants.{Columns, Rows, West, South, Edge, Missing}
use Rattle.heights.specs.declared.header.Frame.{Frame}
use Rattle.numerals.specs.Text.{of_kind, blank, lower, run, ahead, behind, word, after_word, next_line, from_line, alike}
use Rattle.heights.specs.Header.{key_of, line_of, last_of, line_value, entry_of, or_bad, header_of}
use Rattle.numerals.proofs.Runs.{run-le, run-yes, run-no}

-- ---- a run lies in a run of what it is a kind of
run-over : (f g : ℕ → Bool) → ((b : ℕ) → g b ≡ true → f b ≡ true) → (t : List ℕ) → run f t ≡ run g t + run f (drop (run g t) t)
unfolding run
run-over f g h [] = refl
run-over f g h (b ∷ t) = go (g b) refl (run-over f g h t)
  where
    go : (v : Bool) → g b ≡ v → run f t ≡ run g t + run f (drop (run g t) t) → run f (b ∷ t) ≡ run g (b ∷ t) + run f (drop (run g (b ∷ t)) (b ∷ t))
    go true e r =
        let on : suc (run f t) ≡ suc (run g t) + run f (drop (run g t) t) = omega arith in
        run-yes f b t (h b e) ∙ on ∙ sym (ap (λ (n : ℕ). n + run f (drop n (b ∷ t))) (run-yes g b t e))
    go false e r = sym (ap (λ (n : ℕ). n + run f (drop n (b ∷ t))) (run-no g b t e) ∙ zero-add (run f (b ∷ t)))

pub word_line : (b : ℕ) → of_kind Word b ≡ true → of_kind Line b ≡ true
word_line b e = and_right (not (blank b)) (not (eqb b 10)) e

blank-line : (b : ℕ) → of_kind Blank b ≡ true → of_kind Line b ≡ true
blank-line b e = go (eqb b 10) refl
  where
    go : (v : Bool) → eqb b 10 ≡ v → not v ≡ true
    go true p = absurd (false≢true (ap blank (sym (eqb-true b 10 p)) ∙ e))
    go false p = refl

-- ---- a line is at least as long as its first word
word_in : (t : List ℕ) → length (word t) ≤ run (of_kind Line) t
unfolding word ahead behind
word_in t =
    let b = drop (run (of_kind Blank) t) t in
    omega (arith, length-take-le (run (of_kind Word) b) b (run-le (of_kind Word) b), run-over (of_kind Line) (of_kind Word) word_line b, run-over (of_kind Line) (of_kind Blank) blank-line t)

next-short : (t : List ℕ) → length (next_line t) + length (word t) ≤ length t
unfolding next_line behind
next-short t =
    let k = run (of_kind Line) t in
    omega (arith, length-drop 1 (drop k t), length-drop k t, run-le (of_kind Line) t, word_in t)

-- ---- a line that can be read has its keyword
alike-long : (w k : List ℕ) → alike w k ≡ true → length w ≡ length k
unfolding alike
alike-long [] [] e = refl
alike-long [] (b ∷ k) e = absurd (false≢true e)
alike-long (a ∷ w) [] e = absurd (false≢true e)
alike-long (a ∷ w) (b ∷ k) e = go (eqb (lower a) (lower b)) e (λ p. alike-long w k p)
  where
    go : (v : Bool) → elim v [ true ↦ alike w k | false ↦ false ] ≡ true → (alike w k ≡ true → length w ≡ length k) → suc (length w) ≡ suc (length k)
    go true p r = ap suc (r p)
    go false p r = absurd (false≢true p)

readable : Option ℤ → Bool
readable (Some z) = true
readable None = false

keyword : (k : Key) (t : List ℕ) (z : ℤ) → line_value k t ≡ Some z → length (word t) ≡ length (key_of k)
unfolding line_value readable
keyword k t z e = go (alike (word t) (key_of k)) refl e
  where
    go : (v : Bool) → alike (word t) (key_of k) ≡ v → cond v (last_of k (after_word t)) None ≡ Some z → length (word t) ≡ length (key_of k)
    go true p q = alike-long (word t) (key_of k) p
    go false p q = absurd (false≢true (ap readable q))

shorter : (k : Key) (t : List ℕ) (z : ℤ) → entry_of k t ≡ Some z → length (next_line (from_line (line_of k) t)) + length (key_of k) ≤ length (from_line (line_of k) t)
unfolding entry_of
shorter k t z e = omega (arith, next-short (from_line (line_of k) t), keyword k (from_line (line_of k) t) z e)

-- ---- all six
is_read : Result Frame ℕ → Bool
is_read (Ok f) = true
is_read (Err i) = false

pub read-on : {P : Type 0} (i : ℕ) (n : Option ℤ) (rest : ℤ → Result Frame ℕ) (f : Frame) → or_bad i n rest ≡ Ok f → ((z : ℤ) → n ≡ Some z → rest z ≡ Ok f → P) → P
unfolding is_read
read-on i (Some z) rest f e k = k z refl e
read-on i None rest f e k = absurd (false≢true (ap is_read e))

pub header-long : (t : List ℕ) (f : Frame) → Ok f ≡ header_of t → 7 + length (from_line 6 t) ≤ length t
unfolding header_of from_line
header-long t f e =
    read-on 1 (entry_of Columns t) _ f (sym e) (λ a p q.
    read-on 2 (entry_of Rows t) _ f q (λ b p' q'.
    read-on 3 (entry_of West t) _ f q' (λ c p'' q''.
    read-on 4 (entry_of South t) _ f q'' (λ d o r.
    read-on 5 (entry_of Edge t) _ f r (λ h o' r'.
    read-on 6 (entry_of Missing t) _ f r' (λ m o'' r''.
    omega (arith, shorter Columns t a p, shorter Rows t b p', shorter West t c p'', shorter South t d o, shorter Edge t h o', shorter Missing t m o'')))))))
