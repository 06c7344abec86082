-- Runs of one kind of byte: what one byte more says, and how long a run may be. Assumes nothing.
use mathlib.Core.Path.{◌≡◌, refl, sym, ap, ◌∙◌}
use mathlib.Core.Bool.{Bool, true, false}
use mathlib.Core.List.{List, [], ◌∷◌}
use Prim.Native.Nat.{ℕ, zero, suc, ◌+◌, ◌≤◌, ◌<◌}
use native.Mathlib.Numerals.{add-one}
use native.Mathlib.Omega.{arith}
use borrow.Author.Tests.{eq-eqb, ne_eqb, eqb-true, eqb-false}
use lib.Dec.{eqb}
use lib.ListN.{length, drop, get_or, length-drop, drop_of_length-le}
use lib.Seq.{drop-cons, drop-drop}
use Rattle.numerals.specs.declared.text.Kind.TheVariants.{Blank, Word, Line}
use Rattle.numerals.specs.declared.text.Span.{Span}
use Rattle.numerals.specs.Text.{of_kind, run, behind, every, next_line}
use Rattle.numerals.specs.inner.Places.{past_at, word_at, Next}

pub run-le : (f : ℕ → Bool) (t : List ℕ) → run f t ≤ length t
unfolding run
run-le f [] = omega arith
run-le f (b ∷ t) = go (f b) (run-le f t)
  where
    go : (d : Bool) → run f t ≤ length t → elim d [ true ↦ suc (run f t) | false ↦ 0 ] ≤ suc (length t)
    go true h = omega arith
    go false h = omega arith

pub run-yes : (f : ℕ → Bool) (b : ℕ) (t : List ℕ) → f b ≡ true → run f (b ∷ t) ≡ suc (run f t)
unfolding run
run-yes f b t e = rw (e, run) refl

pub run-no : (f : ℕ → Bool) (b : ℕ) (t : List ℕ) → f b ≡ false → run f (b ∷ t) ≡ 0
unfolding run
run-no f b t e = rw (e, run) refl

pub next : (s : List ℕ) (i : ℕ) → i < length s → drop i s ≡ get_or s i 0 ∷ drop (i + 1) s
next s i h = rw (add-one, drop-cons s i 0)

pub run_on : (f : ℕ → Bool) (s : List ℕ) (i : ℕ) → i < length s → f (get_or s i 0) ≡ true → run f (drop i s) ≡ suc (run f (drop (i + 1) s))
run_on f s i h e = ap (run f) (next s i h) ∙ run-yes f (get_or s i 0) (drop (i + 1) s) e

pub run-stop : (f : ℕ → Bool) (s : List ℕ) (i : ℕ) → i < length s → f (get_or s i 0) ≡ false → run f (drop i s) ≡ 0
run-stop f s i h e = ap (run f) (next s i h) ∙ run-no f (get_or s i 0) (drop (i + 1) s) e

pub run_end : (f : ℕ → Bool) (s : List ℕ) (i : ℕ) → length s ≤ i → run f (drop i s) ≡ 0
unfolding run
run_end f s i h = ap (run f) (drop_of_length-le s h)

-- a run ends inside the text
pub past-le : (f : ℕ → Bool) (s : List ℕ) (at : ℕ) → at ≤ length s → past_at f s at ≤ length s
past-le f s at h = omega (arith, run-le f (drop at s), length-drop at s)

pub every-end : (f : ℕ → Bool) (s : List ℕ) (at : ℕ) → length s ≤ at → true ≡ every f (drop at s)
unfolding every
every-end f s at h = sym (eq-eqb (run f (drop at s)) (length (drop at s)) (omega (arith, run_end f s at h, length-drop at s)))

-- the code compares the place where the run ends with the length
pub every-is : (f : ℕ → Bool) (s : List ℕ) (at r : ℕ) → at ≤ length s → r ≡ past_at f s at → eqb r (length s) ≡ every f (drop at s)
unfolding every
every-is f s at r h e = go (eqb r (length s)) refl
  where
    go : (b : Bool) → eqb r (length s) ≡ b → b ≡ eqb (run f (drop at s)) (length (drop at s))
    go true p = sym (eq-eqb (run f (drop at s)) (length (drop at s)) (omega (arith, length-drop at s, e, eqb-true r (length s) p)))
    go false p = sym (ne_eqb (run f (drop at s)) (length (drop at s)) (λ q. eqb-false r (length s) p (omega (arith, length-drop at s, e, q, run-le f (drop at s)))))

-- ---- from places to what is left
pub at-behind : (f : ℕ → Bool) (s : List ℕ) (at : ℕ) → drop (past_at f s at) s ≡ behind f (drop at s)
unfolding behind
at-behind f s at = sym (drop-drop (run f (drop at s)) at s)

-- the line's end: LF, or the text's end
one_more : (s : List ℕ) (e : ℕ) → drop (e + 1) s ≡ drop 1 (drop e s)
one_more s e = sym (drop-drop 1 e s)

pub next-in : (s : List ℕ) (at e : ℕ) → at ≤ length s → e ≡ past_at (of_kind Line) s at → e < length s → Next s at (e + 1)
unfolding next_line
next-in s at e h p k =
    record {
      rest = one_more s e ∙ ap (λ (l : List ℕ). drop 1 l) (ap (λ (i : ℕ). drop i s) p ∙ at-behind (of_kind Line) s at);
      low = omega arith;
      on = λ l. omega arith;
      inside = omega arith;
    }

pub next-out : (s : List ℕ) (at e : ℕ) → at ≤ length s → e ≡ past_at (of_kind Line) s at → length s ≤ e → Next s at e
unfolding next_line
next-out s at e h p k =
    let n : drop e s ≡ [] = drop_of_length-le s k in
    let m : behind (of_kind Line) (drop at s) ≡ [] = sym (ap (λ (i : ℕ). drop i s) p ∙ at-behind (of_kind Line) s at) ∙ n in
    record {
      rest = n ∙ sym (ap (λ (l : List ℕ). drop 1 l) m);
      low = omega arith;
      on = λ l. omega arith;
      inside = omega (arith, past-le (of_kind Line) s at h);
    }

-- a word's place from its two ends
pub spans : (s : List ℕ) (at f t : ℕ) → f ≡ past_at (of_kind Blank) s at → t ≡ past_at (of_kind Word) s f → ◌≡◌ {A = Span} (record { from = f; to = t }) (word_at s at)
spans s at f t p q =
    ap (λ (x : ℕ). record { from = f; to = x }) q ∙ ap (λ (g : ℕ). record { from = g; to = past_at (of_kind Word) s g }) p

-- ---- what passes at each place of a run
pub run_at : (f : ℕ → Bool) (t : List ℕ) (i d : ℕ) → i < run f t → f (get_or t i d) ≡ true
unfolding run
run_at f [] i d h = absurd (omega arith)
run_at f (b ∷ t) zero d h = go (f b) refl h
  where
    go : (v : Bool) → f b ≡ v → 0 < elim v [ true ↦ suc (run f t) | false ↦ 0 ] → f b ≡ true
    go true e k = e
    go false e k = absurd (omega arith)
run_at f (b ∷ t) (suc i) d h = go (f b) h (λ k. run_at f t i d k)
  where
    go : (v : Bool) → suc i < elim v [ true ↦ suc (run f t) | false ↦ 0 ] → (i < run f t → f (get_or t i d) ≡ true) → f (get_or t i d) ≡ true
    go true k r = r (omega arith)
    go false k r = absurd (omega arith)

pub every-at : (f : ℕ → Bool) (t : List ℕ) (i d : ℕ) → every f t ≡ true → i < length t → f (get_or t i d) ≡ true
unfolding every
every-at f t i d e h = run_at f t i d (omega (arith, eqb-true (run f t) (length t) e))
