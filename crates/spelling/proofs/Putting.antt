-- Storing into a room: a number's width as the code counts it, its digits from the last on, and one storing behind another. Assumes nothing.
use mathlib.Core.Path.{◌≡◌, refl, sym, ap, ◌∙◌, subst}
use mathlib.Core.Bool.{Bool, true, false, true≢false}
use mathlib.Core.List.{List, [], ◌∷◌, ◌++◌}
use Prim.Native.Nat.{ℕ, zero, suc, ◌+◌, ◌-◌, ◌*◌, ◌/◌, ◌%◌, ◌^◌, ◌≤◌, ◌<◌}
use native.Mathlib.Nat.{pow-succ'}
use native.Mathlib.Omega.{arith}
use borrow.Author.Tests.{le-leb}
use lib.Dec.{ltb}
use lib.IntN.{ℤ, pos, negsuc, nat_abs}
use lib.ListN.{length, take, drop, get_or, set, length-append}
use lib.Seq.{sets, length-sets, take_all, take-take, take_at, get_or-take, get_or_at, drop-cons, drop-length, set_comm}
use lib.Signed.{le_z}
use Rattle.record.proofs.Numbers.{then-put}
use Rattle.spelling.specs.Spelling.{digits_of, width_from, width, spell_of, sign_of, whole_of, metres_of}
use Rattle.spelling.specs.inner.Put.{Put}
use Rattle.spelling.proofs.Widths.{length_digits, width-step, width-last, plain-sign, minus-sign}

-- ---- the width, digit by digit
pub record Narrow (n w m : ℕ) : Type 0 where
  pub low : 1 ≤ w
  pub high : w ≤ 20
  pub small : m < 10 ^ (21 - w)
  pub counts : w + width_from (20 - w) m ≡ 1 + width n

pub narrow-begin : (n : ℕ) → n < 18446744073709551616 → Narrow n 1 n
narrow-begin n h = record { low = omega arith; high = omega arith; small = omega arith; counts = refl }

pub narrow-room : {n w m : ℕ} → Narrow n w m → 10 ≤ m → w < 20
narrow-room {n} {w} {m} r h = go (20 - w) refl
  where
    go : (f : ℕ) → 20 - w ≡ f → w < 20
    go zero e =
        let p : 21 - w ≡ 1 = omega (arith, r.low, r.high) in
        absurd (omega (arith, subst (λ (k : ℕ). m < 10 ^ k) p r.small))
    go (suc f) e = omega arith

pub narrow-more : {n w m : ℕ} → Narrow n w m → 10 ≤ m → Narrow n (w + 1) (m / 10)
narrow-more {n} {w} {m} r h =
    let k : w < 20 = narrow-room r h in
    let p : 21 - w ≡ suc (21 - (w + 1)) = omega arith in
    let s : m < 10 * 10 ^ (21 - (w + 1)) = subst (λ (x : ℕ). m < x) (ap (λ (x : ℕ). 10 ^ x) p ∙ pow-succ' 10 (21 - (w + 1))) r.small in
    let q : 20 - w ≡ suc (20 - (w + 1)) = omega arith in
    let t : width_from (20 - w) m ≡ suc (width_from (20 - (w + 1)) (m / 10)) = ap (λ (x : ℕ). width_from x m) q ∙ width-step (20 - (w + 1)) m h in
    record { low = omega arith; high = omega arith; small = omega arith; counts = omega (arith, r.counts, t) }

pub narrow-end : {n w m : ℕ} → Narrow n w m → m < 10 → w ≡ width n
narrow-end {n} {w} {m} r h = omega (arith, r.counts, width-last (20 - w) m h)

-- ---- the digits, from the last on
pub set-sets : (l : List ℕ) (p i d : ℕ) (vs : List ℕ) → i < p → set (sets l p vs) i d ≡ sets (set l i d) p vs
set-sets l p i d [] h = refl
set-sets l p i d (v ∷ vs) h =
    set-sets (set l p v) (suc p) i d vs (omega arith)
    ∙ ap (λ (x : List ℕ). sets x (suc p) vs) (set_comm l p i v d (λ e. omega arith))

pub record Backwards (before after : List ℕ) (at k n i m : ℕ) : Type 0 where
  pub within : i ≤ k
  pub left : take i (digits_of k n) ≡ digits_of i m
  pub done : after ≡ sets before (at + i) (drop i (digits_of k n))

pub back-begin : (room : List ℕ) (at k n : ℕ) → Backwards room room at k n k n
back-begin room at k n =
    let l = length_digits k n in
    record {
      within = omega arith;
      left = take_all k (digits_of k n) (omega (arith, l));
      done = sym (ap (sets room (at + k)) (ap (λ (j : ℕ). drop j (digits_of k n)) (sym l) ∙ drop-length (digits_of k n)));
    }

back_one : {before after : List ℕ} {at k n j m : ℕ} → Backwards before after at k n (suc j) m → Backwards before (set after (at + j) (48 + m % 10)) at k n j (m / 10)
unfolding digits_of
back_one {before} {after} {at} {k} {n} {j} {m} r =
    let D = digits_of k n in
    let d : ℕ = 48 + m % 10 in
    let l = length_digits k n in
    let t : take (suc j) D ≡ digits_of j (m / 10) ++ d ∷ [] = r.left in
    let g : get_or D j 0 ≡ d =
    sym (get_or-take (suc j) D j 0 (omega arith)) ∙ ap (λ (x : List ℕ). get_or x j 0) t ∙ get_or_at (digits_of j (m / 10)) d [] 0 j (length_digits j (m / 10)) in
    let c : drop j D ≡ d ∷ drop (suc j) D = drop-cons D j 0 (omega (arith, l, r.within)) ∙ ap (λ (x : ℕ). x ∷ drop (suc j) D) g in
    let p : at + suc j ≡ suc (at + j) = omega arith in
    record {
      within = omega (arith, r.within);
      left = sym (take-take j (suc j) D (omega arith)) ∙ ap (take j) t ∙ take_at (digits_of j (m / 10)) (d ∷ []) j (length_digits j (m / 10));
      done =
          ap (λ (x : List ℕ). set x (at + j) d) r.done
          ∙ set-sets before (at + suc j) (at + j) d (drop (suc j) D) (omega arith)
          ∙ ap (λ (x : ℕ). sets (set before (at + j) d) x (drop (suc j) D)) p
          ∙ sym (ap (sets before (at + j)) c);
    }

pub back_more : {before after : List ℕ} {at k n m : ℕ} (i : ℕ) → 0 < i → Backwards before after at k n i m
    → Backwards before (set after (at + (i - 1)) (48 + m % 10)) at k n (i - 1) (m / 10)
back_more zero h r = absurd (omega arith)
back_more {before} {after} {at} {k} {n} {m} (suc j) h r =
    let e : j ≡ suc j - 1 = omega arith in
    subst (λ (x : ℕ). Backwards before (set after (at + x) (48 + m % 10)) at k n x (m / 10)) e (back_one r)

pub back_end : {before after : List ℕ} {at k n m : ℕ} (i : ℕ) → i ≤ 0 → Backwards before after at k n i m → after ≡ sets before at (digits_of k n)
back_end {before} {after} {at} {k} {n} {m} zero h r = r.done ∙ ap (λ (x : ℕ). sets before x (digits_of k n)) (let e : at + 0 ≡ at = omega arith in e)
back_end (suc j) h r = absurd (omega arith)

-- ---- one storing behind another
pub put-none : (room : List ℕ) (at : ℕ) → Put room at [] room at
put-none room at = record { room-is = refl; end = omega arith }

pub put-long : {room after bytes : List ℕ} {at r : ℕ} → Put room at bytes after r → length after ≡ length room
put-long {room} {after} {bytes} {at} p = ap length p.room-is ∙ length-sets room at bytes

pub put_as : {room after a b : List ℕ} {at r : ℕ} → Put room at a after r → a ≡ b → Put room at b after r
put_as {room} {after} {a} {b} {at} {r} p e = subst (λ (x : List ℕ). Put room at x after r) e p

pub put_then : {room mid after a b : List ℕ} {at r q : ℕ} → Put room at a mid r → Put mid r b after q → Put room at (a ++ b) after q
put_then {room} {mid} {after} {a} {b} {at} {r} {q} x y =
    record {
      room-is = then-put room at r a b x.room-is y.room-is (sym x.end);
      end = omega (arith, x.end, y.end, length-append a b);
    }

-- ---- the sign
pub sign-none : (z : ℤ) → le_z (pos 0) z ≡ true → [] ≡ sign_of z
sign-none (pos m) e = sym (plain-sign m)
sign-none (negsuc m) e = absurd (true≢false (sym e))

pub sign-minus : (z : ℤ) → le_z (pos 0) z ≡ false → 45 ∷ [] ≡ sign_of z
sign-minus (pos m) e = absurd (true≢false (sym (le-leb 0 m (omega arith)) ∙ e))
sign-minus (negsuc m) e = sym (minus-sign m)

-- ---- how long
pub whole_long : (z : ℤ) → length (whole_of z) ≡ length (sign_of z) + length (spell_of (nat_abs z))
unfolding whole_of
whole_long z = length-append (sign_of z) (spell_of (nat_abs z))

pub metres-long : (z : ℤ) → length (metres_of z) ≡ length (sign_of z) + (length (spell_of (nat_abs z / 1000)) + 4)
unfolding metres_of
metres-long z =
    let a = nat_abs z / 1000 in
    let d = digits_of 3 (nat_abs z % 1000) in
    length-append (sign_of z) (spell_of a ++ 46 ∷ d) ∙ omega (arith, length-append (spell_of a) (46 ∷ d), length_digits 3 (nat_abs z % 1000))

pub spell-long : (n : ℕ) → length (spell_of n) ≡ width n
unfolding spell_of
spell-long n = length_digits (width n) n

pub spell-is : (n k : ℕ) → k ≡ width n → digits_of k n ≡ spell_of n
unfolding spell_of
spell-is n k e = ap (λ (x : ℕ). digits_of x n) e

-- ---- a number that passed a call
pub sign-told : {room after : List ℕ} {at r : ℕ} {x z : ℤ} → Put room at (sign_of x) after r → x ≡ z → Put room at (sign_of z) after r
sign-told p e = put_as p (ap sign_of e)

pub whole-put : {room mid after : List ℕ} {at r q n : ℕ} (z : ℤ) → n ≡ nat_abs z → Put room at (sign_of z) mid r → Put mid r (spell_of n) after q → Put room at (whole_of z) after q
unfolding whole_of
whole-put z e x y = put_then x (put_as y (ap spell_of e))

pub metres-put : {room a b d after : List ℕ} {at r s t q n : ℕ} (z : ℤ) → n ≡ nat_abs z → Put room at (sign_of z) a r → Put a r (spell_of (n / 1000)) b s
    → Put b s (46 ∷ []) d t → Put d t (digits_of 3 (n % 1000)) after q → Put room at (metres_of z) after q
unfolding metres_of
metres-put z e x y v w =
    put_then x (put_then (put_as y (ap (λ (k : ℕ). spell_of (k / 1000)) e)) (put_as (put_then v w) (ap (λ (k : ℕ). 46 ∷ digits_of 3 (k % 1000)) e)))

-- ---- lengths as the code adds them
pub width-most : (f n : ℕ) → width_from f n ≤ suc f
unfolding width_from
width-most zero n = omega arith
width-most (suc f) n = go (ltb n 10) (width-most f (n / 10))
  where
    go : (b : Bool) → width_from f (n / 10) ≤ suc f → elim b [ true ↦ 1 | false ↦ suc (width_from f (n / 10)) ] ≤ suc (suc f)
    go true h = omega arith
    go false h = omega arith

pub sign-most : (z : ℤ) → length (sign_of z) ≤ 1
sign-most (pos m) = omega (arith, ap length (plain-sign m))
sign-most (negsuc m) = omega (arith, ap length (minus-sign m))
