-- Reading digits one by one finds the number that all of them spell: what is left spells, after what was read, what the whole text spells. A number only
-- grows by the digits after it, so one that is above `most` on the way is above it at the end. Assumes nothing.
use mathlib.Core.Path.{◌≡◌, refl, sym, ap, ◌∙◌}
use mathlib.Core.Bool.{Bool, true, false, ◌&&◌, cond, true≢false}
use mathlib.Core.List.{List, [], ◌∷◌}
use Prim.Native.Nat.{ℕ, ◌+◌, ◌-◌, ◌*◌, ◌≤◌, ◌<◌}
use native.Mathlib.Numerals.{add-one}
use native.Mathlib.Omega.{arith}
use borrow.Author.Tests.{lt-ltb, leb-true, leb-false, le-leb, lt-leb}
use lib.Dec.{leb, ltb}
use lib.ListN.{length, drop, get_or, drop_of_length-le}
use lib.Seq.{drop-cons}
use Rattle.std.proofs.Common.{Some, None}
use Rattle.console.specs.Decimal.{is_digit, are_digits, number_after, spelled_by}
use Rattle.console.specs.inner.Digit.{one_more}

-- ---- one digit
-- what a number that was read says of the digit
pub record More (n b most m : ℕ) : Type 0 where
  pub digit : is_digit b ≡ true
  pub is : m ≡ 10 * n + (b - 48)
  pub few : m ≤ most

more-is : (d l : Bool) (n b most m : ℕ) → is_digit b ≡ d → leb (10 * n + (b - 48)) most ≡ l
    → cond (d && l) (Some (10 * n + (b - 48))) None ≡ Some m → More n b most m
more-is true true n b most m p q e =
    let i : m ≡ 10 * n + (b - 48) = cc in record { digit = p; is = i; few = omega (arith, leb-true (10 * n + (b - 48)) most q) }
more-is true false n b most m p q e = absurd (let z : ◌≡◌ {A = ℕ} 0 1 = cc in omega arith)
more-is false l n b most m p q e = absurd (let z : ◌≡◌ {A = ℕ} 0 1 = cc in omega arith)

more : {n b most m : ℕ} → one_more n b most ≡ Some m → More n b most m
more {n} {b} {most} {m} e = more-is (is_digit b) (leb (10 * n + (b - 48)) most) n b most m refl refl e

no-more-is : (d l : Bool) (m : ℕ) → cond (d && l) (Some m) None ≡ None → (d && l) ≡ false
no-more-is true true m e = absurd (let z : ◌≡◌ {A = ℕ} 0 1 = cc in omega arith)
no-more-is true false m e = refl
no-more-is false l m e = refl

-- ---- more digits make no number smaller
grows : (n : ℕ) (t : List ℕ) → n ≤ number_after n t
unfolding number_after
grows n [] = omega arith
grows n (b ∷ t) = omega (arith, grows (10 * n + (b - 48)) t)

-- ---- a text read up to i, whose digits so far spell n
pub record Reading (text : List ℕ) (most n i : ℕ) : Type 0 where
  pub past : i ≤ length text
  pub some : 0 < length text
  pub number : number_after n (drop i text) ≡ number_after 0 text
  pub digits : are_digits (drop i text) ≡ are_digits text
  pub few : n ≤ most

pub none : (text : List ℕ) (most : ℕ) → length text ≡ 0 → None ≡ spelled_by text most
unfolding spelled_by
none [] most h = refl
none (b ∷ t) most h = absurd (omega arith)

pub begins : (text : List ℕ) (most : ℕ) → 0 < length text → Reading text most 0 0
begins text most h = record { past = omega arith; some = h; number = refl; digits = refl; few = omega arith }

next : (text : List ℕ) (i : ℕ) → i < length text → drop i text ≡ get_or text i 0 ∷ drop (i + 1) text
next text i h = rw (add-one, drop-cons text i 0)

pub goes_on : {text : List ℕ} {most n i m : ℕ} → Reading text most n i → i < length text → one_more n (get_or text i 0) most ≡ Some m
    → Reading text most m (i + 1)
unfolding are_digits number_after
goes_on {text} {most} {n} {i} {m} r h e =
    let o : More n (get_or text i 0) most m = more e in
    let b = get_or text i 0 in
    let t = drop (i + 1) text in
    record {
      past = omega arith;
      some = r.some;
      number = ap (λ (k : ℕ). number_after k t) o.is ∙ sym (ap (number_after n) (next text i h)) ∙ r.number;
      digits = sym (ap (λ (d : Bool). d && are_digits t) o.digit) ∙ sym (ap are_digits (next text i h)) ∙ r.digits;
      few = o.few;
    }

no-and : (a : Bool) {l : Bool} → l ≡ false → (a && l) ≡ false
no-and true h = h
no-and false h = refl

-- a digit that cannot be read, or that makes too large a number
refused-is : (d l : Bool) (n b most : ℕ) (t : List ℕ) → is_digit b ≡ d → leb (10 * n + (b - 48)) most ≡ l → (d && l) ≡ false
    → (are_digits (b ∷ t) && leb (number_after n (b ∷ t)) most) ≡ false
unfolding are_digits number_after
refused-is false l n b most t p q e = ap (λ (d : Bool). (d && are_digits t) && leb (number_after n (b ∷ t)) most) p
refused-is true false n b most t p q e =
    let h : most < 10 * n + (b - 48) = leb-false (10 * n + (b - 48)) most q in
    let k : most < number_after (10 * n + (b - 48)) t = omega (arith, grows (10 * n + (b - 48)) t) in
    no-and (are_digits (b ∷ t)) (lt-leb (number_after (10 * n + (b - 48)) t) most k)
refused-is true true n b most t p q e = absurd (true≢false e)

pub stops : {text : List ℕ} {most n i : ℕ} → Reading text most n i → i < length text → one_more n (get_or text i 0) most ≡ None
    → None ≡ spelled_by text most
unfolding spelled_by
stops {text} {most} {n} {i} r h e =
    let b = get_or text i 0 in
    let t = drop (i + 1) text in
    let f : (are_digits (b ∷ t) && leb (number_after n (b ∷ t)) most) ≡ false =
    refused-is (is_digit b) (leb (10 * n + (b - 48)) most) n b most t refl refl (no-more-is (is_digit b) (leb (10 * n + (b - 48)) most) _ e) in
    let d : are_digits (b ∷ t) ≡ are_digits text = sym (ap are_digits (next text i h)) ∙ r.digits in
    let m : number_after n (b ∷ t) ≡ number_after 0 text = sym (ap (number_after n) (next text i h)) ∙ r.number in
    let g : (are_digits text && leb (number_after 0 text) most) ≡ false = rw (← d, ← m) f in
    simp (lt-ltb 0 (length text) r.some, g)

pub ends : {text : List ℕ} {most n i : ℕ} → Reading text most n i → length text ≤ i → Some n ≡ spelled_by text most
unfolding spelled_by are_digits number_after
ends {text} {most} {n} {i} r h =
    let e : drop i text ≡ [] = drop_of_length-le text h in
    let d : true ≡ are_digits text = sym (ap are_digits e) ∙ r.digits in
    let m : n ≡ number_after 0 text = sym (ap (number_after n) e) ∙ r.number in
    simp (lt-ltb 0 (length text) r.some, sym d, sym m, le-leb n most r.few)

-- ---- what is read is at most `most`
at-most-is : (a b l : Bool) (n most m : ℕ) → leb n most ≡ l → Some m ≡ cond (a && b && l) (Some n) None → m ≤ most
at-most-is true true true n most m q e = let i : m ≡ n = cc in omega (arith, leb-true n most q)
at-most-is true true false n most m q e = absurd (let z : ◌≡◌ {A = ℕ} 0 1 = cc in omega arith)
at-most-is true false l n most m q e = absurd (let z : ◌≡◌ {A = ℕ} 0 1 = cc in omega arith)
at-most-is false b l n most m q e = absurd (let z : ◌≡◌ {A = ℕ} 0 1 = cc in omega arith)

pub at_most : (text : List ℕ) (most : ℕ) {n : ℕ} → Some n ≡ spelled_by text most → n ≤ most
unfolding spelled_by
at_most text most {n} e =
    at-most-is (ltb 0 (length text)) (are_digits text) (leb (number_after 0 text) most) (number_after 0 text) most n refl e
