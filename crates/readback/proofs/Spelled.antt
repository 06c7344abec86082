-- What the spelling of a number spells is that number. Assumes nothing.
use Rattle.std.proofs.Common.{Some}
use mathlib.Core.Path.{◌≡◌, refl, sym, ap, ap₂, ◌∙◌}
use mathlib.Core.Bool.{Bool, true, true≢false}
use mathlib.Core.List.{List, [], ◌∷◌, ◌++◌, append_assoc, append-nil}
use Prim.Native.Nat.{ℕ, zero, suc, ◌+◌, ◌-◌, ◌*◌, ◌/◌, ◌%◌, ◌^◌, ◌≤◌, ◌<◌}
use native.Mathlib.Nat.{pow-succ', div-add-mod, mod-lt}
use native.Mathlib.Omega.{arith}
use borrow.Author.Tests.{eq-eqb, ne_eqb, le-leb}
use lib.IntN.{ℤ, pos, negsuc, neg_ℤ, nat_abs, ◌*ℤ◌}
use lib.ListN.{length, drop, get_or, length-append}
use lib.Seq.{get_or_at, get_or-append-add, drop-append-add}
use Rattle.numerals.specs.declared.text.Kind.TheVariants.{Digit, Nought}
use Rattle.numerals.specs.Text.{of_kind, run, every}
use Rattle.numerals.specs.Number.{digit_at, value_to, thousandths_at, ends_well, plain_of, kept, negated, number_of}
use Rattle.spelling.specs.Spelling.{digits_of, width, spell_of, whole_of, metres_of}
use Rattle.spelling.proofs.Widths.{length_digits, width_some, width-holds, width_fits, plain-sign, minus-sign}
use Rattle.numerals.proofs.Runs.{run-yes, run-no}
use Rattle.numerals.proofs.Digits.{plain-so, ends_so, ends-here}

-- ---- lists whose every byte passes
abbrev pub Each : (ℕ → Bool) → List ℕ → Type 0
Each f [] = Unit {0}
Each f (b ∷ t) = (f b ≡ true) × Each f t

pub each_append : (f : ℕ → Bool) (s t : List ℕ) → Each f s → Each f t → Each f (s ++ t)
each_append f [] t p q = q
each_append f (b ∷ s) t p q = (p.0, each_append f s t p.1 q)

pub run-each : (f : ℕ → Bool) (s r : List ℕ) → Each f s → run f (s ++ r) ≡ length s + run f r
run-each f [] r p = omega arith
run-each f (b ∷ s) r p = run-yes f b (s ++ r) p.0 ∙ omega (arith, run-each f s r p.1)

pub each_more : (f g : ℕ → Bool) → ((b : ℕ) → f b ≡ true → g b ≡ true) → (s : List ℕ) → Each f s → Each g s
each_more f g h [] p = tt
each_more f g h (b ∷ s) p = (h b p.0, each_more f g h s p.1)

run-all : (f : ℕ → Bool) (s : List ℕ) → Each f s → run f s ≡ length s
unfolding run
run-all f s p = ap (run f) (sym (append-nil s)) ∙ run-each f s [] p ∙ omega arith

-- ---- k digits
digit-good : (n : ℕ) → of_kind Digit (48 + n % 10) ≡ true
digit-good n = simp (le-leb 48 (48 + n % 10) (omega arith), le-leb (48 + n % 10) 57 (omega (arith, mod-lt n {m = 10} (omega arith))))

pub digits-each : (k n : ℕ) → Each (of_kind Digit) (digits_of k n)
unfolding digits_of
digits-each zero n = tt
digits-each (suc k) n = each_append (of_kind Digit) (digits_of k (n / 10)) ((48 + n % 10) ∷ []) (digits-each k (n / 10)) (digit-good n, tt)

-- what they spell, whatever follows them
pub value-digits : (k n : ℕ) (r : List ℕ) → n < 10 ^ k → value_to (digits_of k n ++ r) k ≡ n
unfolding digits_of value_to digit_at
value-digits zero n r h = omega arith
value-digits (suc k) n r h =
    let d = 48 + n % 10 in
    let w : (digits_of k (n / 10) ++ d ∷ []) ++ r ≡ digits_of k (n / 10) ++ (d ∷ r) = append_assoc (digits_of k (n / 10)) (d ∷ []) r in
    let v : value_to ((digits_of k (n / 10) ++ d ∷ []) ++ r) k ≡ n / 10 = ap (λ (l : List ℕ). value_to l k) w ∙ value-digits k (n / 10) (d ∷ r) (omega (arith, pow-succ' 10 k)) in
    let g : get_or ((digits_of k (n / 10) ++ d ∷ []) ++ r) k 48 ≡ d = ap (λ (l : List ℕ). get_or l k 48) w ∙ get_or_at (digits_of k (n / 10)) d r 48 k (length_digits k (n / 10)) in
    omega (arith, v, g)

none_left : (t : ℕ) → every (of_kind Nought) (drop 4 (46 ∷ digits_of 3 t)) ≡ true
unfolding digits_of every run
none_left t = refl

-- ---- a magnitude with three decimals, and without
-- what follows the digits of n in a word, and that nothing of it is a digit at first
module _ (n : ℕ) (h : n < 1000000000000) where
  few : width n ≤ 12
  few = width_fits 19 11 n h

  holds : n < 10 ^ width n
  holds = width-holds 19 n (omega arith)

  pub length-spell : length (spell_of n) ≡ width n
  unfolding spell_of
  length-spell = length_digits (width n) n

  pub spell-each : Each (of_kind Digit) (spell_of n)
  unfolding spell_of
  spell-each = digits-each (width n) n

  front : (r : List ℕ) → run (of_kind Digit) r ≡ 0 → run (of_kind Digit) (spell_of n ++ r) ≡ width n
  front r e = run-each (of_kind Digit) (spell_of n) r spell-each ∙ omega (arith, e, length-spell)

  value-front : (r : List ℕ) → value_to (spell_of n ++ r) (width n) ≡ n
  unfolding spell_of
  value-front r = value-digits (width n) n r holds

  -- the value, from what follows
  pub plain-front : (r : List ℕ) (t : ℕ) → run (of_kind Digit) r ≡ 0 → ends_well (spell_of n ++ r) (width n) ≡ true → thousandths_at (spell_of n ++ r) (width n) ≡ t
      → plain_of (spell_of n ++ r) ≡ Some (1000 * n + t)
  plain-front r t e w v =
      let k = front r e in
      sym (plain-so (spell_of n ++ r) (omega (arith, k, width_some 19 n)) (omega (arith, k, few)) (ap (ends_well (spell_of n ++ r)) k ∙ w))
      ∙ ap₂ (λ (a b : ℕ). Some (1000 * a + b)) (ap (value_to (spell_of n ++ r)) k ∙ value-front r) (ap (thousandths_at (spell_of n ++ r)) k ∙ v)

  digit-behind : (r : List ℕ) (i : ℕ) → digit_at (spell_of n ++ r) (width n + i) ≡ digit_at r i
  unfolding digit_at
  digit-behind r i =
      ap (λ (x : ℕ). x - 48) (ap (λ (k : ℕ). get_or (spell_of n ++ r) (k + i) 48) (sym length-spell) ∙ get_or-append-add (spell_of n) r i 48)

  thousandths-behind : (r : List ℕ) → thousandths_at (spell_of n ++ r) (width n) ≡ 100 * digit_at r 1 + 10 * digit_at r 2 + digit_at r 3
  unfolding thousandths_at
  thousandths-behind r = omega (arith, digit-behind r 1, digit-behind r 2, digit-behind r 3)

  -- nothing follows
  pub plain-whole : plain_of (spell_of n ++ []) ≡ Some (1000 * n + 0)
  unfolding run digit_at
  plain-whole =
      plain-front [] 0 refl (sym (ends-here (spell_of n ++ []) (width n) (omega (arith, length-append (spell_of n) [], length-spell)))) (thousandths-behind [])

  -- a point and three digits
  module _ (t : ℕ) (g : t < 1000) where
    tail : List ℕ
    tail = 46 ∷ digits_of 3 t

    long : length (spell_of n ++ tail) ≡ width n + 4
    unfolding tail
    long = length-append (spell_of n) tail ∙ omega (arith, length-spell, length_digits 3 t)

    point : get_or (spell_of n ++ tail) (width n) 0 ≡ 46
    unfolding tail
    point = get_or_at (spell_of n) 46 (digits_of 3 t) 0 (width n) length-spell

    dropped : (i : ℕ) → drop (width n + i) (spell_of n ++ tail) ≡ drop i tail
    dropped i = ap (λ (k : ℕ). drop (k + i) (spell_of n ++ tail)) (sym length-spell) ∙ drop-append-add (spell_of n) tail i

    all_digits : every (of_kind Digit) (digits_of 3 t) ≡ true
    unfolding every
    all_digits = eq-eqb _ _ (run-all (of_kind Digit) (digits_of 3 t) (digits-each 3 t))

    ends : ends_well (spell_of n ++ tail) (width n) ≡ true
    unfolding tail
    ends =
        sym (ends_so (spell_of n ++ tail) (width n) (omega (arith, long)) (omega (arith, long)) point (ap (every (of_kind Digit)) (dropped 1) ∙ all_digits))
        ∙ ap (every (of_kind Nought)) (dropped 4) ∙ none_left t

    behind : thousandths_at (spell_of n ++ tail) (width n) ≡ t
    unfolding tail digits_of digit_at
    behind = thousandths-behind tail ∙ omega arith

    pub plain-metres : plain_of (spell_of n ++ 46 ∷ digits_of 3 t) ≡ Some (1000 * n + t)
    unfolding tail
    plain-metres = plain-front tail t (run-no (of_kind Digit) 46 (digits_of 3 t) refl) ends behind

-- ---- with its sign
first-kept : (s r : List ℕ) → Each (of_kind Digit) s → 0 < length s → number_of (s ++ r) ≡ kept (plain_of (s ++ r))
unfolding number_of
first-kept [] r p h = absurd (omega arith)
first-kept (b ∷ s) r p h = simp (ne_eqb b 45 (λ e. true≢false (sym p.0 ∙ ap (of_kind Digit) e)))

behind-minus : (w : List ℕ) → number_of (45 ∷ w) ≡ negated (plain_of w)
unfolding number_of
behind-minus w = refl

spell-some : (n : ℕ) → n < 1000000000000 → 0 < length (spell_of n)
spell-some n h = omega (arith, length-spell n h, width_some 19 n)

-- millimetres as metres, within ±10^15
pub metres-spell : (z : ℤ) → nat_abs z < 1000000000000000 → number_of (metres_of z) ≡ Some z
unfolding metres_of
metres-spell (pos m) h =
    let a = m / 1000 in
    let s : a < 1000000000000 = omega arith in
    let t : m % 1000 < 1000 = mod-lt m (omega arith) in
    ap (λ (l : List ℕ). number_of (l ++ (spell_of a ++ 46 ∷ digits_of 3 (m % 1000)))) (plain-sign m)
    ∙ first-kept (spell_of a) (46 ∷ digits_of 3 (m % 1000)) (spell-each a s) (spell-some a s)
    ∙ ap kept (plain-metres a s (m % 1000) t)
    ∙ ap (λ (n : ℕ). Some (pos n)) (div-add-mod m 1000)
metres-spell (negsuc m) h =
    let a = suc m / 1000 in
    let s : a < 1000000000000 = omega arith in
    let t : suc m % 1000 < 1000 = mod-lt (suc m) (omega arith) in
    ap (λ (l : List ℕ). number_of (l ++ (spell_of a ++ 46 ∷ digits_of 3 (suc m % 1000)))) (minus-sign m)
    ∙ behind-minus (spell_of a ++ 46 ∷ digits_of 3 (suc m % 1000))
    ∙ ap negated (plain-metres a s (suc m % 1000) t)
    ∙ ap (λ (n : ℕ). Some (neg_ℤ (pos n))) (div-add-mod (suc m) 1000)

-- a whole number, within ±10^12
pub whole-spell : (z : ℤ) → nat_abs z < 1000000000000 → number_of (whole_of z) ≡ Some (pos 1000 *ℤ z)
unfolding whole_of
whole-spell (pos m) h =
    ap (λ (l : List ℕ). number_of (l ++ spell_of m)) (plain-sign m)
    ∙ ap number_of (sym (append-nil (spell_of m)))
    ∙ first-kept (spell_of m) [] (spell-each m h) (spell-some m h)
    ∙ ap kept (plain-whole m h)
    ∙ (let e : 1000 * m + 0 ≡ 1000 * m = omega arith in ap (λ (n : ℕ). Some (pos n)) e)
whole-spell (negsuc m) h =
    ap (λ (l : List ℕ). number_of (l ++ spell_of (suc m))) (minus-sign m)
    ∙ behind-minus (spell_of (suc m))
    ∙ ap (λ (l : List ℕ). negated (plain_of l)) (sym (append-nil (spell_of (suc m))))
    ∙ ap negated (plain-whole (suc m) h)
    ∙ (let e : 1000 * suc m + 0 ≡ 1000 * suc m = omega arith in ap (λ (n : ℕ). Some (neg_ℤ (pos n))) e)
