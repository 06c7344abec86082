-- An `f32` that is n/2^k exactly, times 2^k, is n: no rounding changes it, and the cast to an integer loses nothing. No second n is. Assumes nothing.
use mathlib.Core.Path.{◌≡◌, sym, ap, ◌∙◌, subst}
use mathlib.Core.Bool.{Bool, false}
use Prim.Native.Nat.{ℕ, ◌*◌, ◌^◌}
use native.Mathlib.Nat.{mul-one, one-mul, mul-pos, zero-lt-suc, eq_of_mul-eq-mul_right}
use native.Mathlib.Omega.{arith}
use lib.Dec.{T, le→leb}
use lib.IntN.{pos}
use lib.Ieee.{Float, nan, inf, fin, binary32, up, down, unlike, round, mul, of_int, in_float, in_unsigned, to_unsigned}
use lib.Ieee.Exact.{HasValue}
use lib.Ieee.Back.{unsigned_back}
use lib.Ieee.Scale.{round_same}
use lib.Ieee.Fits.{down_pos}
use Rattle.tunnel.specs.Exact.{Exactly}
use Rattle.tunnel.specs.inner.Parts.{Parts}

-- the product is the float of n
product_is : (x : Float) (n k : ℕ) → HasValue x false n (2 ^ k) → mul binary32 x (fin false 1 (pos k)) ≡ of_int binary32 (pos n)
unfolding mul of_int
product_is nan n k v = absurd v
product_is (inf t) n k v = absurd v
product_is (fin t m e) n k v =
    ap (λ (b : Bool). round binary32 (unlike b false) (m * up e * (1 * 2 ^ k)) (down e * 1)) v.0
    ∙ round_same binary32 false (m * up e * (1 * 2 ^ k)) (down e * 1) n 1 (mul-pos (down_pos e) (zero-lt-suc 0)) (zero-lt-suc 0)
    (simp (one-mul, mul-one) v.1)

-- what the cast asks, and what it gives
pub record Back (x : Float) (k : ℕ) : Type 0 where
  pub may : T (in_unsigned binary32 64 (mul binary32 x (fin false 1 (pos k))))
  pub is : Exactly x (to_unsigned 64 (mul binary32 x (fin false 1 (pos k)))) (2 ^ k)

pub back : (k : ℕ) {x : Float} → Parts x (2 ^ k) → Back x k
unfolding in_float
back k {x} p =
    let n = p.count in
    let e = product_is x n k p.is.value in
    let b = unsigned_back binary32 64 n (le→leb n 16777216 (omega arith)) (omega arith) in
    record {
      may = subst (λ (y : Float). T (in_unsigned binary32 64 y)) (sym e) b.0;
      is = subst (λ (m : ℕ). Exactly x m (2 ^ k)) (sym (ap (to_unsigned 64) e ∙ b.1)) p.is;
    }

-- one number for one value
same_number : (x : Float) (n m d : ℕ) → HasValue x false n d → HasValue x false m d → n ≡ m
same_number nan n m d v w = absurd v
same_number (inf t) n m d v w = absurd v
same_number (fin t a e) n m d v w =
    eq_of_mul-eq-mul_right (down e) (down_pos e) n m (sym v.1 ∙ w.1)

pub exactly-number : (x : Float) (n m d : ℕ) → Exactly x n d → Exactly x m d → n ≡ m
exactly-number x n m d h k = same_number x n m d h.value k.value
