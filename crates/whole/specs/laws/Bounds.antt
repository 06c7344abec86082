-- Bounds. Laws of `nat_abs`, and `Reads m z n`: the machine's m is the whole number z, and z is within ±n. A sum, a difference, a product, a cut
-- quotient of such is one, with the bound worked out; a bound below the width's half fits, by computation.
-- Use: `fits (times (arg c.fits.w hw) (arg c.fits.q hq)) tt` is that w·q fits an i64. Machine finds such terms by itself. Assumes nothing.
use Rattle.std.specs.Prelude.{◌≡◌, refl, ℕ, zero, suc, ◌+◌, ◌*◌, ◌-◌, ◌/◌, ◌%◌, ◌<◌, ◌≤◌, ◌^◌, T, ltb, ℤ, pos, negsuc, neg_ℤ, nat_abs, ◌+ℤ◌, ◌-ℤ◌, ◌*ℤ◌, ◌≤ℤ◌, ◌<ℤ◌}
use Rattle.std.proofs.Common.{sym, ◌∙◌, ap₂, subst, mul-le-mul, div-le_self, le_refl, arith, ltb→lt, to_z-of_z}
use Rattle.std.specs.Int.Signed.{quot_z, mag}
use Rattle.std.specs.Int.{Width}
use mir.Val.{SFits, to_z, of_z, hbits}
use mir.ValLaws.{pow-bits}
use Rattle.whole.specs.laws.Parts.{Is, is-self, is-add, abs-parts, ≤-parts}

-- ---- nat_abs
pub abs_neg : (a : ℤ) → nat_abs (neg_ℤ a) ≡ nat_abs a
abs_neg (pos zero) = refl
abs_neg (pos (suc n)) = refl
abs_neg (negsuc n) = refl

-- one of the two parts is 0
abs-le : (z : ℤ) (p n : ℕ) → Is z p n → nat_abs z ≤ p + n
abs-le (pos k) p n h = omega (arith, h.eq)
abs-le (negsuc k) p n h = omega (arith, h.eq)

pub abs-add : (a b : ℤ) → nat_abs (a +ℤ b) ≤ nat_abs a + nat_abs b
abs-add a b = omega (arith, abs-le (a +ℤ b) _ _ (is-add (is-self a) (is-self b)), abs-parts a, abs-parts b)

pub abs-sub : (a b : ℤ) → nat_abs (a -ℤ b) ≤ nat_abs a + nat_abs b
abs-sub a b = omega (arith, abs-add a (neg_ℤ b), abs_neg b)

pub abs-mul : (a b : ℤ) → nat_abs (a *ℤ b) ≡ nat_abs a * nat_abs b
abs-mul (pos a) (pos b) = refl
abs-mul (pos a) (negsuc b) = abs_neg (pos (a * suc b))
abs-mul (negsuc a) (pos b) = abs_neg (pos (suc a * b))
abs-mul (negsuc a) (negsuc b) = refl

pub abs-quot : (a b : ℤ) → nat_abs (quot_z a b) ≡ nat_abs a / nat_abs b
abs-quot (pos a) (pos b) = refl
abs-quot (pos a) (negsuc b) = abs_neg (pos (a / suc b))
abs-quot (negsuc a) (pos b) = abs_neg (pos (suc a / b))
abs-quot (negsuc a) (negsuc b) = refl

pub abs-quot-le : (a b : ℤ) → nat_abs (quot_z a b) ≤ nat_abs a
abs-quot-le a b = omega (arith, abs-quot a b, div-le_self (nat_abs a) (nat_abs b))

pub mag-le : (z : ℤ) → mag z ≤ nat_abs z
mag-le (pos n) = omega arith
mag-le (negsuc n) = omega arith

pub fits-abs : {w : Width} {z : ℤ} → nat_abs z < 2 ^ hbits w → SFits w z
fits-abs {w} {z} h = record { sfits = omega (arith, mag-le z) }

-- ---- the machine's reading
pub record Reads (m z : ℤ) (n : ℕ) : Type 0 where
  pub is : m ≡ z
  pub abs : nat_abs z ≤ n

pub fits : {w : Width} {m z : ℤ} {n : ℕ} → Reads m z n → T (ltb n (2 ^ hbits w)) → SFits w m
fits {w} {m} {z} {n} r t = subst (SFits w) (sym r.is) (fits-abs (let h = ltb→lt n (2 ^ hbits w) t in omega (arith, r.abs)))

pub held : (w : Width) {m z : ℤ} {n : ℕ} → Reads m z n → T (ltb n (2 ^ hbits w)) → Reads (to_z w (of_z w m)) z n
held w r t = record { is = to_z-of_z (fits r t) ∙ r.is; abs = r.abs }

-- a parameter, with what the contract says of it
pub arg : {w : Width} {z : ℤ} {n : ℕ} → SFits w z → nat_abs z ≤ n → Reads (to_z w (of_z w z)) z n
arg f h = record { is = to_z-of_z f; abs = h }

pub lit : (z : ℤ) → Reads z z (nat_abs z)
lit z = record { is = refl; abs = le_refl (nat_abs z) }

pub plus : {a x : ℤ} {m : ℕ} {b y : ℤ} {n : ℕ} → Reads a x m → Reads b y n → Reads (a +ℤ b) (x +ℤ y) (m + n)
plus {x = x} {y = y} r s = record { is = ap₂ ◌+ℤ◌ r.is s.is; abs = omega (arith, abs-add x y, r.abs, s.abs) }

pub minus : {a x : ℤ} {m : ℕ} {b y : ℤ} {n : ℕ} → Reads a x m → Reads b y n → Reads (a -ℤ b) (x -ℤ y) (m + n)
minus {x = x} {y = y} r s = record { is = ap₂ ◌-ℤ◌ r.is s.is; abs = omega (arith, abs-sub x y, r.abs, s.abs) }

pub times : {a x : ℤ} {m : ℕ} {b y : ℤ} {n : ℕ} → Reads a x m → Reads b y n → Reads (a *ℤ b) (x *ℤ y) (m * n)
times {x = x} {y = y} r s = record { is = ap₂ ◌*ℤ◌ r.is s.is; abs = omega (arith, abs-mul x y, mul-le-mul r.abs s.abs) }

pub over : {a x : ℤ} {m : ℕ} {b y : ℤ} {n : ℕ} → Reads a x m → Reads b y n → Reads (quot_z a b) (quot_z x y) m
over {x = x} {y = y} r s = record { is = ap₂ quot_z r.is s.is; abs = omega (arith, abs-quot-le x y, r.abs) }

-- a tighter or looser bound
pub within : {a x : ℤ} {m : ℕ} → Reads a x m → (n : ℕ) → nat_abs x ≤ n → Reads a x n
within r n h = record { is = r.is; abs = h }

-- the divisor's bits are not 0
of_z-pos : (w : Width) (z : ℤ) → nat_abs z < 2 ^ hbits w → 0 < nat_abs z → 0 < of_z w z
of_z-pos w (pos n) h k = k
of_z-pos w (negsuc n) h k = omega (arith, pow-bits w)

pub nonzero : (w : Width) {m z : ℤ} {n : ℕ} → Reads m z n → T (ltb n (2 ^ hbits w)) → 0 < nat_abs z → 0 < of_z w m
nonzero w {m} {z} {n} r t h =
    subst (λ (x : ℤ). 0 < of_z w x) (sym r.is) (of_z-pos w z (let k = ltb→lt n (2 ^ hbits w) t in omega (arith, r.abs)) h)

-- ---- from orders to nat_abs
pub abs-above : {k : ℕ} {z : ℤ} → pos k ≤ℤ z → k ≤ nat_abs z
abs-above {k} {z} h = omega (arith, ≤-parts h, abs-parts z)

pub abs-below : {k l : ℕ} {z : ℤ} → pos k ≤ℤ z → z ≤ℤ pos l → nat_abs z ≤ l
abs-below {k} {l} {z = pos n} h g = omega (arith, ≤-parts h, ≤-parts g)
abs-below {k} {l} {z = negsuc n} h g = omega (arith, ≤-parts h, ≤-parts g)

-- a divisor that is a parameter
pub divisor : (w : Width) (z : ℤ) → SFits w z → 0 < nat_abs z → 0 < of_z w z
divisor w (pos n) f h = h
divisor w (negsuc n) f h = omega (arith, pow-bits w, f.sfits)
