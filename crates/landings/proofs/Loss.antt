-- What a cut or floor quotient loses, and sums of such losses: `Err z r k`, z within ±k·r. And the machine's shift, read as a floor quotient.
-- Use: as lattice's `reading`, with the ruleset `shifting`. Assumes nothing.
use mathlib.Core.Bool.{◌&&◌}
use mathlib.Core.Path.{◌≡◌, sym, ◌∙◌, ap}
use mathlib.Core.List.{[], ◌∷◌}
use Prim.Native.Nat.{ℕ, suc, ◌+◌, ◌*◌, ◌-◌, ◌/◌, ◌%◌, ◌<◌, ◌≤◌}
use native.Mathlib.Nat.{div-add-mod, mod-lt, mul-suc, mul_assoc, mul_comm, mul-le-mul, mul-le-mul_left, le_trans, div-mul-le_self, le-div_iff_mul-le}
use native.Mathlib.Omega.{arith}
use lib.Dec.{T, ltb, leb, ltb→lt}
use lib.IntN.{ℤ, pos, negsuc, neg_ℤ, nat_abs, ◌+ℤ◌, ◌-ℤ◌, ◌*ℤ◌}
use lib.Signed.{◌≤ℤ◌, quot_z, shr_z}
use Rattle.whole.specs.laws.Bools.{T-left}
use Rattle.whole.specs.laws.Casts.{index_is}
use Rattle.whole.specs.laws.Machine.{Val, abs-of, v+, v*, vneg, v64, v32, vpos, vnegsuc, Within}
use Rattle.whole.specs.laws.Parts.{is-self, is_pos, is-add, is_mul, is_eq}
use Rattle.whole.specs.laws.Bounds.{abs-add, abs-mul, abs_neg}
use Rattle.whole.specs.laws.Quot.{cut-near, minus-from}
use Rattle.lattice.proofs.Reading.{v/num, num, v/least, inside}
use Rattle.landings.specs.inner.Estimate.{EndIs}

-- ---- the floor quotient leaves less than the divisor
unfoldable pub left : ℤ → ℕ → ℕ
left (pos n) b = n % b
left (negsuc n) b = b - suc (n % b)

pub floor-left : (a : ℤ) (b : ℕ) → 0 < b → a ≡ pos b *ℤ shr_z a b +ℤ pos (left a b)
unfolding left
floor-left (pos n) b h = ap pos (sym (div-add-mod n b))
floor-left (negsuc n) b h =
    is_eq (is-self (negsuc n)) (is-add (is_mul (is_pos b) (is-self (negsuc (n / b)))) (is_pos (b - suc (n % b))))
    (omega (arith, div-add-mod n b, mod-lt n h, mul-suc b (n / b)))

pub left-most : (a : ℤ) (b : ℕ) → 0 < b → left a b < b
unfolding left
left-most (pos n) b h = mod-lt n h
left-most (negsuc n) b h = omega arith

pub floor-near : (a : ℤ) (b : ℕ) → Within (a -ℤ pos (suc b) *ℤ shr_z a (suc b)) b
floor-near a b =
    rw (minus-from a (pos (suc b) *ℤ shr_z a (suc b)) (pos (left a (suc b))) (floor-left a (suc b) (omega arith)))
    (record { abs = omega (arith, left-most a (suc b) (omega arith)) })

pub cut_left : (a : ℤ) (b : ℕ) → Within (a -ℤ pos (suc b) *ℤ quot_z a (pos (suc b))) b
cut_left a b = record { abs = omega (arith, cut-near a (pos (suc b)) (omega arith)) }

-- ---- z within ±k·r
pub record Err (z : ℤ) (r k : ℕ) : Type 0 where
  pub abs : nat_abs z ≤ k * r

pub err+ : {a b : ℤ} {r k l : ℕ} → Err a r k → Err b r l → Err (a +ℤ b) r (k + l)
err+ {a} {b} {r} {k} {l} x y = record { abs = omega (arith, abs-add a b, x.abs, y.abs) }

pub err-neg : {a : ℤ} {r k : ℕ} → Err a r k → Err (neg_ℤ a) r k
err-neg {a} x = record { abs = omega (arith, abs_neg a, x.abs) }

pub err* : {a x : ℤ} {m r k : ℕ} → Within x m → Err a r k → Err (x *ℤ a) r (m * k)
err* {a} {x} {m} {r} {k} h e = record { abs = omega (arith, abs-mul x a, mul-le-mul h.abs e.abs, mul_assoc m k r) }

pub err_of : {u : ℤ} {k : ℕ} (ρ : ℤ) → Within u k → Err (ρ *ℤ u) (nat_abs ρ) k
err_of {u} {k} ρ h = record { abs = omega (arith, abs-mul ρ u, mul-le-mul_left (nat_abs ρ) h.abs, mul_comm (nat_abs ρ) k) }

pub within-pos : (n : ℕ) → Within (pos n) n
within-pos n = record { abs = omega arith }

pub of-negsuc : (n : ℕ) → Within (negsuc n) (suc n)
of-negsuc n = record { abs = omega arith }

pub within+ : {a b : ℤ} {k l : ℕ} → Within a k → Within b l → Within (a +ℤ b) (k + l)
within+ {a} {b} x y = record { abs = omega (arith, abs-add a b, x.abs, y.abs) }

pub within-neg : {a : ℤ} {k : ℕ} → Within a k → Within (neg_ℤ a) k
within-neg {a} x = record { abs = omega (arith, abs_neg a, x.abs) }

pub within* : {a b : ℤ} {k l : ℕ} → Within a k → Within b l → Within (a *ℤ b) (k * l)
within* {a} {b} x y = record { abs = omega (arith, abs-mul a b, mul-le-mul x.abs y.abs) }

-- ---- the machine's shift, with a bound that shrinks with it
pub shr-abs : (a : ℤ) (m k : ℕ) → nat_abs a ≤ m → 0 < k → nat_abs (shr_z a k) ≤ m / k + 1
shr-abs (pos a) m k h p =
    let l : a / k ≤ m / k = (le-div_iff_mul-le p).1 (le_trans (div-mul-le_self a k) h) in
    omega arith
shr-abs (negsuc a) m k h p =
    let l : a / k ≤ m / k = (le-div_iff_mul-le p).1 (le_trans (div-mul-le_self a k) (omega arith)) in
    omega arith

pub record By (k : ℕ) : Type 0 where
  pub some : T (ltb 0 k)

abbrev pub by : {k : ℕ} → T (ltb 0 k) → By k
by t = record { some = t }

abbrev pub vshr : {a : ℤ} {k : ℕ} → Val a → By k → Val (shr_z a k)
vshr {a} {k} x y =
    record {
      z = shr_z x.z k;
      n = x.n / k + 1;
      ok = x.ok;
      is = λ t.
          let r = x.is t in
          record { is = ap (λ (z : ℤ). shr_z z k) r.is; abs = shr-abs x.z x.n k r.abs (ltb→lt 0 k y.some) };
    }

pub ruleset shifting = (v+, v*, v/num, num, v/least, vneg, vshr, by, v64, v32, vpos, vnegsuc, inside)

-- an end that the machine holds
pub end_is : {m : ℤ} (v : Val m) → T (v.ok && leb v.n 2305843009213693951) → pos 0 ≤ℤ v.z → EndIs v.z (nat_abs m)
end_is {m} v t h =
    let k = abs-of v 2305843009213693951 t in
    record { is = index_is v (T-left v.ok (leb v.n 2305843009213693951) t) h; most = omega arith }
