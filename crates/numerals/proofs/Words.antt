-- Words, lines and keywords: from the places that the code holds to what is left of the text. Assumes nothing.
use mathlib.Core.Path.{◌≡◌, refl, sym, ap, ap₂, ◌∙◌, subst}
use mathlib.Core.Bool.{Bool, true, false, ◌&&◌}
use mathlib.Core.List.{List, [], ◌∷◌, map}
use mathlib.Core.Logic.{⊎_elim}
use Prim.Native.Nat.{ℕ, suc, ◌+◌, ◌-◌, ◌≤◌, ◌<◌}
use native.Mathlib.Numerals.{add-one}
use native.Mathlib.Omega.{arith}
use borrow.Author.Tests.{lt-leb, le-leb}
use lib.Dec.{eqb}
use lib.ListN.{length, take, drop}
use lib.Seq.{length-take-le}
use Rattle.std.specs.Char.{to_ascii_lowercase}
use Rattle.std.specs.Str.{bytes_eq}
use Rattle.std.proofs.lemmas.Str.Ascii.{lowercase_is}
use Rattle.whole.specs.laws.Order.{≤-or}
use Rattle.numerals.specs.declared.text.Kind.TheVariants.{Blank, Word}
use Rattle.numerals.specs.declared.text.Span.{Span}
use Rattle.numerals.specs.Text.{of_kind, run, ahead, behind, word, after_word, next_line, from_line, lower, alike}
use Rattle.numerals.specs.inner.Places.{past_at, word_at, Next, LineIs}
use Rattle.numerals.proofs.Runs.{run-le, past-le, at-behind}

-- ---- the next word
pub record Found (s : List ℕ) (at : ℕ) (r : Span) : Type 0 where
  pub ordered : r.from ≤ r.to
  pub inside : r.to ≤ length s
  pub bytes : take (r.to - r.from) (drop r.from s) ≡ word (drop at s)
  pub rest : drop r.to s ≡ after_word (drop at s)
  pub size : length (word (drop at s)) ≡ r.to - r.from

found_at : (s : List ℕ) (at : ℕ) → at ≤ length s → Found s at (word_at s at)
unfolding word after_word ahead
found_at s at h =
    let f = past_at (of_kind Blank) s at in
    let t = past_at (of_kind Word) s f in
    let m = past-le (of_kind Blank) s at h in
    let d : t - f ≡ run (of_kind Word) (drop f s) = omega arith in
    let b : drop f s ≡ behind (of_kind Blank) (drop at s) = at-behind (of_kind Blank) s at in
    let w : take (t - f) (drop f s) ≡ word (drop at s) = ap (λ (n : ℕ). take n (drop f s)) d ∙ ap (λ (l : List ℕ). take (run (of_kind Word) l) l) b in
    record {
      ordered = omega arith;
      inside = past-le (of_kind Word) s f m;
      bytes = w;
      rest = at-behind (of_kind Word) s f ∙ ap (behind (of_kind Word)) b;
      size = sym (ap length w) ∙ ap (λ (n : ℕ). length (take n (drop f s))) d ∙ length-take-le (run (of_kind Word) (drop f s)) (drop f s) (run-le (of_kind Word) (drop f s)) ∙ sym d;
    }

pub found : {s : List ℕ} {at : ℕ} {r : Span} → at ≤ length s → r ≡ word_at s at → Found s at r
found {s} {at} h e = subst (Found s at) (sym e) (found_at s at h)

-- ---- lines
pub line-none : (s : List ℕ) → LineIs s 0 0
unfolding from_line
line-none s = record { rest = refl; inside = omega arith }

pub line-more : {s : List ℕ} {n at r : ℕ} → LineIs s n at → Next s at r → LineIs s (n + 1) r
unfolding from_line
line-more {s} {n} {at} {r} l x =
    record { rest = x.rest ∙ ap next_line l.rest ∙ sym (ap (λ (k : ℕ). from_line k s) (add-one n)); inside = x.inside }

-- ---- letters in either case, by the library's lists of small letters
lower-is : (b : ℕ) → lower b ≡ to_ascii_lowercase b
lower-is b =
    let l = lowercase_is b in
    ⊎_elim
    (λ h. ⊎_elim (λ k. simp (le-leb 65 b h, le-leb b 90 k) (sym (l.0 (h, k)))) (λ k. simp (le-leb 65 b h, lt-leb b 90 k) (sym (l.2 k))) (≤-or b 90))
    (λ h. simp (lt-leb 65 b h) (sym (l.1 h)))
    (≤-or 65 b)

pub alike-is : (w k : List ℕ) → alike w k ≡ bytes_eq (map to_ascii_lowercase w) (map to_ascii_lowercase k)
unfolding alike
alike-is [] [] = refl
alike-is [] (b ∷ k) = refl
alike-is (a ∷ w) [] = refl
alike-is (a ∷ w) (b ∷ k) =
    go (eqb (lower a) (lower b)) (alike-is w k)
    ∙ ap (λ (t : Bool). t && bytes_eq (map to_ascii_lowercase w) (map to_ascii_lowercase k)) (ap₂ eqb (lower-is a) (lower-is b))
  where
    go : (v : Bool) {x y : Bool} → x ≡ y → elim v [ true ↦ x | false ↦ false ] ≡ (v && y)
    go true e = e
    go false e = refl
