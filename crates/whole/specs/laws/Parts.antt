-- A whole number as a difference of two naturals: the bridge from ℤ to `omega`, which reads only ℕ. `up z` and `down z` are the positive and the
-- negative part, `Is z p n` says that z is p − n, and an equation or an order of whole numbers is one of naturals over their parts.
-- Use: `is_eq (is-add (is-self a) (is-self b)) (is-add (is-self b) (is-self a)) (omega arith)` proves a + b ≡ b + a. Assumes nothing.
use Rattle.std.specs.Prelude.{◌≡◌, refl, Bool, true, false, not, cond, ℕ, zero, suc, min, max, ◌+◌, ◌*◌, ◌-◌, ◌<◌, ◌≤◌, T, ltb, ℤ, pos, negsuc, neg_ℤ, nat_abs, ◌+ℤ◌, ◌-ℤ◌, ◌*ℤ◌, ◌≤ℤ◌, ◌<ℤ◌}
use Rattle.std.proofs.Common.{◌∙◌, ap, arith, ltb→lt, nltb→le, leb→le, le→leb, lt→ltb}
use Rattle.std.proofs.Math.IntN.{sub_ℕ}
use Rattle.std.specs.Int.Signed.{le_z, lt_z}
use Rattle.whole.specs.Fold.{up, down}

pub record Is (z : ℤ) (p n : ℕ) : Type 0 where
  pub eq : up z + n ≡ p + down z

cond_ind : (c : Bool) (x y : ℤ) (P : ℤ → Type 0) → (T c → P x) → (T (not c) → P y) → P (cond c x y)
cond_ind true x y P f g = f tt
cond_ind false x y P f g = g tt

pub is-self : (z : ℤ) → Is z (up z) (down z)
is-self z = record { eq = refl }

pub is_pos : (n : ℕ) → Is (pos n) n 0
is_pos n = record { eq = refl }

is-sub-lt : (a b : ℕ) → a < b → Is (negsuc (b - suc a)) a b
is-sub-lt a b h = record { eq = omega arith }

is-sub-ge : (a b : ℕ) → b ≤ a → Is (pos (a - b)) a b
is-sub-ge a b h = record { eq = omega arith }

pub is-sub : (a b : ℕ) → Is (sub_ℕ a b) a b
is-sub a b =
    cond_ind (ltb a b) (negsuc (b - suc a)) (pos (a - b)) (λ z. Is z a b)
    (λ t. is-sub-lt a b (ltb→lt a b t))
    (λ t. is-sub-ge a b (nltb→le a b t))

-- the parts may be any two with that difference
shift : {z : ℤ} {p n q m : ℕ} → Is z p n → p + m ≡ q + n → Is z q m
shift {z} h e = record { eq = omega (arith, h.eq) }

pub add-pn : (a b : ℤ) → Is (a +ℤ b) (up a + up b) (down a + down b)
add-pn (pos a) (pos b) = record { eq = refl }
add-pn (pos a) (negsuc b) = shift (is-sub a (suc b)) (omega arith)
add-pn (negsuc a) (pos b) = shift (is-sub b (suc a)) (omega arith)
add-pn (negsuc a) (negsuc b) = record { eq = omega arith }

pub neg-pn : (a : ℤ) → Is (neg_ℤ a) (down a) (up a)
neg-pn (pos zero) = record { eq = refl }
neg-pn (pos (suc n)) = record { eq = omega arith }
neg-pn (negsuc n) = record { eq = omega arith }

pub mul-pn : (a b : ℤ) → Is (a *ℤ b) (up a * up b + down a * down b) (up a * down b + down a * up b)
mul-pn (pos a) (pos b) = record { eq = omega arith }
mul-pn (pos a) (negsuc b) = shift (neg-pn (pos (a * suc b))) (omega arith)
mul-pn (negsuc a) (pos b) = shift (neg-pn (pos (suc a * b))) (omega arith)
mul-pn (negsuc a) (negsuc b) = record { eq = omega arith }

pub is-add : {a b : ℤ} {p n q m : ℕ} → Is a p n → Is b q m → Is (a +ℤ b) (p + q) (n + m)
is-add {a} {b} h k = shift (add-pn a b) (omega (arith, h.eq, k.eq))

pub is-neg : {a : ℤ} {p n : ℕ} → Is a p n → Is (neg_ℤ a) n p
is-neg {a} h = shift (neg-pn a) (omega (arith, h.eq))

pub is_mul : {a b : ℤ} {p n q m : ℕ} → Is a p n → Is b q m → Is (a *ℤ b) (p * q + n * m) (p * m + n * q)
is_mul {a} {b} {p} {n} {q} {m} h k =
    shift (mul-pn a b)
    (omega (
      arith,
      ap (λ (x : ℕ). x * up b) h.eq,
      ap (λ (x : ℕ). x * down b) h.eq,
      ap (λ (x : ℕ). p * x) k.eq,
      ap (λ (x : ℕ). n * x) k.eq,
    ))

-- ---- equations
same : (a b : ℤ) → up a + down b ≡ up b + down a → a ≡ b
same (pos a) (pos b) e = ap pos (omega arith)
same (pos a) (negsuc b) e = absurd (omega arith)
same (negsuc a) (pos b) e = absurd (omega arith)
same (negsuc a) (negsuc b) e = ap negsuc (omega arith)

pub is_eq : {a b : ℤ} {p n q m : ℕ} → Is a p n → Is b q m → p + m ≡ q + n → a ≡ b
is_eq {a} {b} h k e = same a b (omega (arith, h.eq, k.eq))

pub eq_is : {a b : ℤ} {p n q m : ℕ} → Is a p n → Is b q m → a ≡ b → p + m ≡ q + n
eq_is {a} {b} h k e = omega (arith, h.eq, k.eq, ap up e, ap down e)

-- ---- orders
le_parts : (a b : ℤ) → up a + down b ≤ up b + down a → T (le_z a b)
le_parts (pos a) (pos b) e = le→leb a b (omega arith)
le_parts (pos a) (negsuc b) e = absurd (omega arith)
le_parts (negsuc a) (pos b) e = tt
le_parts (negsuc a) (negsuc b) e = le→leb b a (omega arith)

parts-le : (a b : ℤ) → T (le_z a b) → up a + down b ≤ up b + down a
parts-le (pos a) (pos b) t = let h = leb→le a b t in omega arith
parts-le (pos a) (negsuc b) t = absurd t
parts-le (negsuc a) (pos b) t = omega arith
parts-le (negsuc a) (negsuc b) t = let h = leb→le b a t in omega arith

lt-parts : (a b : ℤ) → up a + down b < up b + down a → T (lt_z a b)
lt-parts (pos a) (pos b) e = lt→ltb a b (omega arith)
lt-parts (pos a) (negsuc b) e = absurd (omega arith)
lt-parts (negsuc a) (pos b) e = tt
lt-parts (negsuc a) (negsuc b) e = lt→ltb b a (omega arith)

parts-lt : (a b : ℤ) → T (lt_z a b) → up a + down b < up b + down a
parts-lt (pos a) (pos b) t = let h = ltb→lt a b t in omega arith
parts-lt (pos a) (negsuc b) t = absurd t
parts-lt (negsuc a) (pos b) t = omega arith
parts-lt (negsuc a) (negsuc b) t = let h = ltb→lt b a t in omega arith

pub is_le : {a b : ℤ} {p n q m : ℕ} → Is a p n → Is b q m → p + m ≤ q + n → a ≤ℤ b
is_le {a} {b} h k e = record { le = le_parts a b (omega (arith, h.eq, k.eq)) }

pub le_is : {a b : ℤ} {p n q m : ℕ} → Is a p n → Is b q m → a ≤ℤ b → p + m ≤ q + n
le_is {a} {b} h k e = omega (arith, h.eq, k.eq, parts-le a b e.le)

pub is_lt : {a b : ℤ} {p n q m : ℕ} → Is a p n → Is b q m → p + m < q + n → a <ℤ b
is_lt {a} {b} h k e = record { lt = lt-parts a b (omega (arith, h.eq, k.eq)) }

pub lt-is : {a b : ℤ} {p n q m : ℕ} → Is a p n → Is b q m → a <ℤ b → p + m < q + n
lt-is {a} {b} h k e = omega (arith, h.eq, k.eq, parts-lt a b e.lt)

-- bare, for `omega`: an order as one of the parts
pub ≤-parts : {a b : ℤ} → a ≤ℤ b → up a + down b ≤ up b + down a
≤-parts {a} {b} h = parts-le a b h.le

pub <-parts : {a b : ℤ} → a <ℤ b → up a + down b < up b + down a
<-parts {a} {b} h = parts-lt a b h.lt

pub parts-≤ : {a b : ℤ} → up a + down b ≤ up b + down a → a ≤ℤ b
parts-≤ {a} {b} h = record { le = le_parts a b h }

pub parts-< : {a b : ℤ} → up a + down b < up b + down a → a <ℤ b
parts-< {a} {b} h = record { lt = lt-parts a b h }

-- nat_abs is the sum of the parts, and one of them is 0
pub abs-parts : (z : ℤ) → nat_abs z ≡ up z + down z
abs-parts (pos n) = omega arith
abs-parts (negsuc n) = omega arith

-- for `omega`: one of the parts is 0
pub abs-max : (z : ℤ) → nat_abs z ≡ max (up z) (down z)
abs-max (pos n) = omega arith
abs-max (negsuc n) = omega arith

pub one-zero : (z : ℤ) → min (up z) (down z) ≡ 0
one-zero (pos n) = omega arith
one-zero (negsuc n) = omega arith
