-- Digits are at most 9, so that n of them spell a number below 10^n, and a word a number of thousandths below 10^15. Assumes nothing.
use Rattle.std.proofs.Common.{Some, None}
use mathlib.Core.Path.{◌≡◌, refl, sym, ap, ◌∙◌, subst}
use mathlib.Core.Logic.{⊎_elim}
use mathlib.Core.Bool.{Bool, true, false, ◌&&◌, ◌||◌, cond, false≢true}
use mathlib.Core.List.{List, [], ◌∷◌}
use Prim.Native.Nat.{ℕ, zero, suc, ◌+◌, ◌-◌, ◌*◌, ◌^◌, ◌≤◌, ◌<◌}
use native.Mathlib.Nat.{pow-succ', pow-le-pow_right}
use native.Mathlib.Numerals.{add-one}
use native.Mathlib.Omega.{arith}
use borrow.Author.Tests.{eq-eqb, ne_eqb, leb-true, le-leb, lt-leb, le-ltb, lt-ltb}
use lib.Dec.{leb, ltb, eqb}
use lib.ListN.{length, drop, get_or, length-drop, get_or-eq_default}
use lib.Seq.{get_or-drop}
use Rattle.whole.specs.laws.Bools.{and_right, or_cases}
use Rattle.whole.specs.laws.Order.{≤-or}
use Rattle.numerals.specs.declared.text.Kind.TheVariants.{Digit, Nought}
use Rattle.numerals.specs.Text.{of_kind, run, every}
use Rattle.numerals.specs.Number.{digit_at, value_to, thousandths_at, ends_well, plain_of}
use Rattle.numerals.proofs.Runs.{run_at, every-at}

is-digit-le : (b : ℕ) → of_kind Digit b ≡ true → b - 48 ≤ 9
is-digit-le b e = omega (arith, leb-true b 57 (and_right (leb 48 b) (leb b 57) e))

past_end : (w : List ℕ) (i : ℕ) → length w ≤ i → digit_at w i ≡ 0
unfolding digit_at
past_end w i h = ap (λ (x : ℕ). x - 48) (get_or-eq_default w 48 h)

pub none-there : (w : List ℕ) (i : ℕ) → length w ≤ i → 0 ≡ digit_at w i
none-there w i h = sym (past_end w i h)

pub there : (w : List ℕ) (i d e : ℕ) → i < length w → get_or w i d ≡ get_or w i e
there [] i d e h = absurd (omega arith)
there (b ∷ t) zero d e h = refl
there (b ∷ t) (suc i) d e h = there t i d e (omega arith)

pub low-there : (w : List ℕ) (i : ℕ) → i < length w → get_or w i 0 < 48 → 0 ≡ digit_at w i
unfolding digit_at
low-there w i h k = omega (arith, there w i 0 48 h)

pub digit-there : (w : List ℕ) (i : ℕ) → i < length w → get_or w i 0 - 48 ≡ digit_at w i
unfolding digit_at
digit-there w i h = ap (λ (x : ℕ). x - 48) (there w i 0 48 h)

pub digit-le : (w : List ℕ) (i : ℕ) → i < run (of_kind Digit) w → digit_at w i ≤ 9
unfolding digit_at
digit-le w i h = is-digit-le (get_or w i 48) (run_at (of_kind Digit) w i 48 h)

-- n digits spell a number below 10^n
pub value-lt : (w : List ℕ) (n : ℕ) → n ≤ run (of_kind Digit) w → value_to w n < 10 ^ n
unfolding value_to
value-lt w zero h = omega arith
value-lt w (suc n) h = omega (arith, pow-succ' 10 n, value-lt w n (omega arith), digit-le w n h)

-- the loop's turn
pub value-more : (w : List ℕ) (i : ℕ) → 10 * value_to w i + digit_at w i ≡ value_to w (i + 1)
unfolding value_to
value-more w i = sym (ap (value_to w) (add-one i))

pub turn_small : (w : List ℕ) (i n : ℕ) → i < n → n ≤ 12 → n ≤ run (of_kind Digit) w → 10 * value_to w i + digit_at w i < 1000000000000
turn_small w i n h k r =
    let p : 10 ^ i ≤ 10 ^ 11 = pow-le-pow_right (omega arith) {i = i} {j = 11} (omega arith) in
    omega (arith, value-lt w i (omega arith), digit-le w i (omega arith))

pub value-small : (w : List ℕ) (n : ℕ) → n ≤ 12 → n ≤ run (of_kind Digit) w → value_to w n < 1000000000000
value-small w n k r =
    let p : 10 ^ n ≤ 10 ^ 12 = pow-le-pow_right (omega arith) k in
    omega (arith, value-lt w n r)

-- behind the point
behind-at : (w : List ℕ) (a j : ℕ) → every (of_kind Digit) (drop a w) ≡ true → digit_at w (a + j) ≤ 9
unfolding digit_at
behind-at w a j d =
    ⊎_elim (λ h. omega (arith, past_end w (a + j) h))
    (λ h. is-digit-le (get_or w (a + j) 48) (sym (ap (of_kind Digit) (get_or-drop a w j 48)) ∙ every-at (of_kind Digit) (drop a w) j 48 d (omega (arith, length-drop a w))))
    (≤-or (length w) (a + j))

behind-is : (w : List ℕ) (k j : ℕ) (x y z v : Bool) → every (of_kind Digit) (drop (k + 1) w) ≡ v → (leb (length w) k || (x && y && v && z)) ≡ true → digit_at w (k + 1 + j) ≤ 9
behind-is w k j true true z true p e = behind-at w (k + 1) j p
behind-is w k j true true z false p e = ⊎_elim (λ h. omega (arith, past_end w (k + 1 + j) (omega (arith, leb-true (length w) k h)))) (λ h. absurd (false≢true h)) (or_cases (leb (length w) k) false e)
behind-is w k j true false z v p e = ⊎_elim (λ h. omega (arith, past_end w (k + 1 + j) (omega (arith, leb-true (length w) k h)))) (λ h. absurd (false≢true h)) (or_cases (leb (length w) k) false e)
behind-is w k j false y z v p e = ⊎_elim (λ h. omega (arith, past_end w (k + 1 + j) (omega (arith, leb-true (length w) k h)))) (λ h. absurd (false≢true h)) (or_cases (leb (length w) k) false e)

pub behind-le : (w : List ℕ) (k j : ℕ) → ends_well w k ≡ true → digit_at w (k + 1 + j) ≤ 9
unfolding ends_well
behind-le w k j e = behind-is w k j (ltb (k + 1) (length w)) (eqb (get_or w k 0) 46) (every (of_kind Nought) (drop (k + 4) w)) (every (of_kind Digit) (drop (k + 1) w)) refl e

pub first-le : (w : List ℕ) (k : ℕ) → ends_well w k ≡ true → digit_at w (k + 1) ≤ 9
first-le w k e = let i : k + 1 + 0 ≡ k + 1 = omega arith in subst (λ (i : ℕ). digit_at w i ≤ 9) i (behind-le w k 0 e)

pub second-le : (w : List ℕ) (k : ℕ) → ends_well w k ≡ true → digit_at w (k + 2) ≤ 9
second-le w k e = let i : k + 1 + 1 ≡ k + 2 = omega arith in subst (λ (i : ℕ). digit_at w i ≤ 9) i (behind-le w k 1 e)

third-le : (w : List ℕ) (k : ℕ) → ends_well w k ≡ true → digit_at w (k + 3) ≤ 9
third-le w k e = let i : k + 1 + 2 ≡ k + 3 = omega arith in subst (λ (i : ℕ). digit_at w i ≤ 9) i (behind-le w k 2 e)

pub thousandths-lt : (w : List ℕ) (k : ℕ) → ends_well w k ≡ true → thousandths_at w k < 1000
unfolding thousandths_at
thousandths-lt w k e = omega (arith, first-le w k e, second-le w k e, third-le w k e)

-- the code's sum
pub thousandths-are : (w : List ℕ) (k a b d : ℕ) → a ≡ digit_at w (k + 1) → b ≡ digit_at w (k + 2) → d ≡ digit_at w (k + 3) → 100 * a + 10 * b + d ≡ thousandths_at w k
unfolding thousandths_at
thousandths-are w k a b d p q r = omega (arith, p, q, r)

-- ---- what follows the digits, test by test
pub ends-here : (w : List ℕ) (k : ℕ) → length w ≤ k → true ≡ ends_well w k
unfolding ends_well
ends-here w k h = simp (le-leb (length w) k h)

pub ends-one : (w : List ℕ) (k : ℕ) → k < length w → length w ≤ k + 1 → false ≡ ends_well w k
unfolding ends_well
ends-one w k h g = simp (lt-leb (length w) k h, le-ltb (k + 1) (length w) g)

pub ends-other : (w : List ℕ) (k : ℕ) → k < length w → k + 1 < length w → (get_or w k 0 ≡ 46 → ⊥) → false ≡ ends_well w k
unfolding ends_well
ends-other w k h g n = simp (lt-leb (length w) k h, lt-ltb (k + 1) (length w) g, ne_eqb (get_or w k 0) 46 n)

pub ends-undigit : (w : List ℕ) (k : ℕ) → k < length w → k + 1 < length w → get_or w k 0 ≡ 46 → every (of_kind Digit) (drop (k + 1) w) ≡ false → false ≡ ends_well w k
unfolding ends_well
ends-undigit w k h g n e = simp (lt-leb (length w) k h, lt-ltb (k + 1) (length w) g, eq-eqb (get_or w k 0) 46 n, e)

pub ends_so : (w : List ℕ) (k : ℕ) → k < length w → k + 1 < length w → get_or w k 0 ≡ 46 → every (of_kind Digit) (drop (k + 1) w) ≡ true
    → every (of_kind Nought) (drop (k + 4) w) ≡ ends_well w k
unfolding ends_well
ends_so w k h g n e = simp (lt-leb (length w) k h, lt-ltb (k + 1) (length w) g, eq-eqb (get_or w k 0) 46 n, e)

-- ---- the word as a whole
pub plain-few : (w : List ℕ) → run (of_kind Digit) w < 1 → None ≡ plain_of w
unfolding plain_of
plain-few w h = simp (lt-leb 1 (run (of_kind Digit) w) h)

pub plain-many : (w : List ℕ) → 1 ≤ run (of_kind Digit) w → 12 < run (of_kind Digit) w → None ≡ plain_of w
unfolding plain_of
plain-many w h g = simp (le-leb 1 (run (of_kind Digit) w) h, lt-leb (run (of_kind Digit) w) 12 g)

pub plain_other : (w : List ℕ) → 1 ≤ run (of_kind Digit) w → run (of_kind Digit) w ≤ 12 → ends_well w (run (of_kind Digit) w) ≡ false → None ≡ plain_of w
unfolding plain_of
plain_other w h g e = simp (le-leb 1 (run (of_kind Digit) w) h, le-leb (run (of_kind Digit) w) 12 g, e)

pub plain-so : (w : List ℕ) → 1 ≤ run (of_kind Digit) w → run (of_kind Digit) w ≤ 12 → ends_well w (run (of_kind Digit) w) ≡ true
    → Some (1000 * value_to w (run (of_kind Digit) w) + thousandths_at w (run (of_kind Digit) w)) ≡ plain_of w
unfolding plain_of
plain-so w h g e = simp (le-leb 1 (run (of_kind Digit) w) h, le-leb (run (of_kind Digit) w) 12 g, e)

plain-is : (w : List ℕ) (a b e : Bool) (n : ℕ) → leb (run (of_kind Digit) w) 12 ≡ b → ends_well w (run (of_kind Digit) w) ≡ e
    → Some n ≡ cond (a && b && e) (Some (1000 * value_to w (run (of_kind Digit) w) + thousandths_at w (run (of_kind Digit) w))) None → n < 1000000000000000
plain-is w true true true n p q r =
    let k = run (of_kind Digit) w in
    let i : n ≡ 1000 * value_to w k + thousandths_at w k = cc in
    omega (arith, value-small w k (leb-true k 12 p) (omega arith), thousandths-lt w k q)
plain-is w true true false n p q r = absurd (let z : ◌≡◌ {A = ℕ} 0 1 = cc in omega arith)
plain-is w true false e n p q r = absurd (let z : ◌≡◌ {A = ℕ} 0 1 = cc in omega arith)
plain-is w false b e n p q r = absurd (let z : ◌≡◌ {A = ℕ} 0 1 = cc in omega arith)

pub plain-lt : (w : List ℕ) {n : ℕ} → Some n ≡ plain_of w → n < 1000000000000000
unfolding plain_of
plain-lt w {n} r = plain-is w (leb 1 (run (of_kind Digit) w)) (leb (run (of_kind Digit) w) 12) (ends_well w (run (of_kind Digit) w)) n refl refl r
