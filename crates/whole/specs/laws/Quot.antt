-- The cut quotient (towards zero, `quot_z`) and the floor quotient (`shr_z`): odd, the remainder below the divisor, and that quotient and remainder are
-- determined by that.
-- Use: `quot-exchange s d b` is that an exchange of −d is the negative of the exchange of d; `cut-near a b h` that a lies less than b from b·quot_z a b;
-- `cut-only` and `floor-only` that no second quotient does. Assumes nothing.
use Rattle.std.specs.Prelude.{◌≡◌, refl, [], ◌∷◌, ℕ, zero, suc, ◌+◌, ◌*◌, ◌-◌, ◌/◌, ◌%◌, ◌<◌, ◌≤◌, ℤ, pos, negsuc, neg_ℤ, nat_abs, ◌+ℤ◌, ◌-ℤ◌, ◌*ℤ◌, ◌≤ℤ◌, ◌<ℤ◌}
use Rattle.std.proofs.Common.{sym, ◌∙◌, ap, subst, mod-lt, mul_comm, arith}
use Rattle.std.proofs.Math.Nat.{zero-div, div-add-mod, div-eq_of_lt-le, mul-div_cancel_left}
use Rattle.std.proofs.Math.IntN.{neg_ℤ-neg_ℤ}
use Rattle.std.specs.Int.Signed.{quot_z, rem_z, shr_z}
use Rattle.whole.specs.Fold.{up}
use Rattle.whole.specs.laws.Parts.{is-self, is_pos, is-add, is_mul, eq_is, ≤-parts, parts-≤}
use Rattle.whole.specs.laws.Ring.{*ℤ-neg, neg-*ℤ, ring-by, quotes}
use Rattle.whole.specs.laws.Order.{negℤ-mono}
use Rattle.whole.specs.laws.Bounds.{abs_neg}

pub quot-neg : (a b : ℤ) → quot_z (neg_ℤ a) b ≡ neg_ℤ (quot_z a b)
quot-neg (pos zero) (pos b) = ap pos (zero-div b) ∙ sym (ap (λ (n : ℕ). neg_ℤ (pos n)) (zero-div b))
quot-neg (pos zero) (negsuc b) = ap (λ (n : ℕ). neg_ℤ (pos n)) (zero-div (suc b)) ∙ sym (ap (λ (n : ℕ). neg_ℤ (neg_ℤ (pos n))) (zero-div (suc b)))
quot-neg (pos (suc n)) (pos b) = refl
quot-neg (pos (suc n)) (negsuc b) = sym (neg_ℤ-neg_ℤ (pos (suc n / suc b)))
quot-neg (negsuc n) (pos b) = sym (neg_ℤ-neg_ℤ (pos (suc n / b)))
quot-neg (negsuc n) (negsuc b) = refl

-- the exchange of mass: what one cell gains the other loses
pub quot-exchange : (s d b : ℤ) → quot_z (s *ℤ neg_ℤ d) b ≡ neg_ℤ (quot_z (s *ℤ d) b)
quot-exchange s d b = ap (λ (z : ℤ). quot_z z b) (*ℤ-neg s d) ∙ quot-neg (s *ℤ d) b

-- a non-negative number: the naturals' division
qr-pos : (a b : ℕ) → pos a ≡ pos b *ℤ pos (a / b) +ℤ pos (a % b)
qr-pos a b = ap pos (sym (div-add-mod a b))

pub quot-rem : (a b : ℤ) → a ≡ b *ℤ quot_z a b +ℤ rem_z a b
quot-rem (pos a) (pos b) = qr-pos a b
quot-rem (pos a) (negsuc b) = qr-pos a (suc b) ∙ flip (pos (suc b)) (pos (a / suc b)) (pos (a % suc b))
  where
    flip : (x y z : ℤ) → x *ℤ y +ℤ z ≡ neg_ℤ x *ℤ neg_ℤ y +ℤ z
    flip x y z = ring-by (x ∷ y ∷ z ∷ []) (search quotes depth 20) (search quotes depth 20) tt
quot-rem (negsuc a) (pos b) = ap neg_ℤ (qr-pos (suc a) b) ∙ flip (pos b) (pos (suc a / b)) (pos (suc a % b))
  where
    flip : (x y z : ℤ) → neg_ℤ (x *ℤ y +ℤ z) ≡ x *ℤ neg_ℤ y +ℤ neg_ℤ z
    flip x y z = ring-by (x ∷ y ∷ z ∷ []) (search quotes depth 20) (search quotes depth 20) tt
quot-rem (negsuc a) (negsuc b) = ap neg_ℤ (qr-pos (suc a) (suc b)) ∙ flip (pos (suc b)) (pos (suc a / suc b)) (pos (suc a % suc b))
  where
    flip : (x y z : ℤ) → neg_ℤ (x *ℤ y +ℤ z) ≡ neg_ℤ x *ℤ y +ℤ neg_ℤ z
    flip x y z = ring-by (x ∷ y ∷ z ∷ []) (search quotes depth 20) (search quotes depth 20) tt

pub abs-rem : (a b : ℤ) → nat_abs (rem_z a b) ≡ nat_abs a % nat_abs b
abs-rem (pos a) b = refl
abs-rem (negsuc a) b = abs_neg (pos (suc a % nat_abs b))

pub rem_lt : (a b : ℤ) → 0 < nat_abs b → nat_abs (rem_z a b) < nat_abs b
rem_lt a b h = omega (arith, abs-rem a b, mod-lt (nat_abs a) h)

pub minus-from : (a x r : ℤ) → a ≡ x +ℤ r → a -ℤ x ≡ r
minus-from a x r e = ap (λ (y : ℤ). y -ℤ x) e ∙ ring-by (x ∷ r ∷ []) (search quotes depth 20) (search quotes depth 20) tt

pub rest-is : (a b : ℤ) → a -ℤ b *ℤ quot_z a b ≡ rem_z a b
rest-is a b = minus-from a (b *ℤ quot_z a b) (rem_z a b) (quot-rem a b)

pub cut-near : (a b : ℤ) → 0 < nat_abs b → nat_abs (a -ℤ b *ℤ quot_z a b) < nat_abs b
cut-near a b h = subst (λ (z : ℤ). nat_abs z < nat_abs b) (sym (rest-is a b)) (rem_lt a b h)

-- a quotient that is exact
pub quot-exact : (b : ℕ) (q : ℤ) → 0 < b → quot_z (pos b *ℤ q) (pos b) ≡ q
quot-exact b (pos q) h = ap pos (mul-div_cancel_left q h)
quot-exact b (negsuc q) h = quot-neg (pos (b * suc q)) (pos b) ∙ ap neg_ℤ (ap pos (mul-div_cancel_left (suc q) h))

pub zero-quot : (d : ℤ) → quot_z (pos 0) d ≡ pos 0
zero-quot (pos b) = ap pos (zero-div b)
zero-quot (negsuc b) = ap (λ (t : ℕ). neg_ℤ (pos t)) (zero-div (suc b))

-- ---- no second quotient: a ≡ b·q + r, with r below b and on a's side of 0
only-pos : (n b : ℕ) (q r : ℤ) → pos n ≡ pos b *ℤ q +ℤ r → nat_abs r < b → pos 0 ≤ℤ r → q ≡ quot_z (pos n) (pos b)
only-pos n b (pos q) (pos r) e h k =
    ap pos (sym (div-eq_of_lt-le b
    (let s : n ≡ b * q + r = ap up e in omega (arith, mul_comm q b))
    (let s : n ≡ b * q + r = ap up e in omega (arith, mul_comm q b))))
only-pos n b (pos q) (negsuc r) e h k = absurd k.le
only-pos n b (negsuc q) (pos r) e h k =
    absurd (omega (arith, eq_is (is_pos n) (is-add (is_mul (is_pos b) (is-self (negsuc q))) (is_pos r)) e))
only-pos n b (negsuc q) (negsuc r) e h k = absurd k.le

pub cut-only : (a : ℤ) (b : ℕ) (q r : ℤ) → a ≡ pos b *ℤ q +ℤ r → nat_abs r < b → (pos 0 ≤ℤ a → pos 0 ≤ℤ r) → (a ≤ℤ pos 0 → r ≤ℤ pos 0) → q ≡ quot_z a (pos b)
cut-only (pos n) b q r e h k l = only-pos n b q r e h (k (parts-≤ (omega arith)))
cut-only (negsuc n) b q r e h k l =
    sym (neg_ℤ-neg_ℤ q)
    ∙ ap neg_ℤ (only-pos (suc n) b (neg_ℤ q) (neg_ℤ r)
    (ap neg_ℤ e ∙ ring-by (pos b ∷ q ∷ r ∷ []) (search quotes depth 20) (search quotes depth 20) tt)
    (subst (λ (t : ℕ). t < b) (sym (abs_neg r)) h)
    (negℤ-mono (l (parts-≤ (omega arith)))))

-- ---- the floor quotient

pub floor-only : (n b q : ℕ) → b * q ≤ n → n < b * q + b → shr_z (pos n) b ≡ pos q
floor-only n b q h k = ap pos (div-eq_of_lt-le b (omega (arith, mul_comm q b)) (omega (arith, mul_comm q b)))
