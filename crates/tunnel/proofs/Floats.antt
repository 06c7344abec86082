-- Exact floats: no second `f32` has the same value, and a whole number below 2^24 that is cast and divided by a power of two is exact, since rounding
-- changes nothing there. Assumes nothing.
use mathlib.Core.Path.{◌≡◌, refl, sym, ap, ◌∙◌, subst}
use mathlib.Core.Bool.{Bool, false, cond}
use Prim.Native.Nat.{ℕ, ◌+◌, ◌-◌, ◌*◌, ◌/◌, ◌^◌, ◌≤◌, ◌<◌}
use native.Mathlib.Nat.{mul_right_comm, mul_assoc, mul_comm, one-mul, zero-mul, mul-pos, zero-lt-suc, le_of_lt, lt_of_lt_of_le}
use native.Mathlib.Omega.{arith}
use lib.IntN.{pos}
use lib.Pow.{pow_pos, pow-add, pow_mono, shl_lt}
use lib.Ieee.{Float, nan, inf, fin, Format, binary32, prec, low, hid, top, up, down, unlike, size, round, div, of_int, to_bits, of_bits, fits}
use lib.Ieee.Bits.{of_bits-to_bits}
use lib.Ieee.Exact.{HasValue, round_exact}
use lib.Ieee.Back.{round_whole}
use lib.Ieee.Scale.{round_same}
use lib.Ieee.Fits.{down_pos, div-fits}
use lib.Ieee.Nearest.{div_same}
use Rattle.tunnel.specs.Exact.{Exactly}

-- the bit pattern turns on nothing but the value
pattern : (f : Format) → Bool → ℕ → ℕ
pattern f s n = let k = size n - prec f in cond s (top f) 0 + k * hid f + n / 2 ^ k

bits_of_value : (f : Format) (x : Float) (s : Bool) (n d : ℕ) → 0 < d → HasValue x s n d → to_bits f x ≡ pattern f s (n * 2 ^ low f / d)
unfolding to_bits pattern
bits_of_value f nan s n d p v = absurd v
bits_of_value f (inf t) s n d p v = absurd v
bits_of_value f (fin t m e) s n d p v =
    ap (λ (b : Bool). pattern f b (m * up e * 2 ^ low f / down e)) v.0
    ∙ ap (λ (a : ℕ). pattern f s a)
    (div_same (m * up e * 2 ^ low f) (down e) (n * 2 ^ low f) d (down_pos e) p
    (mul_right_comm (m * up e) (2 ^ low f) d ∙ ap (λ (a : ℕ). a * 2 ^ low f) v.1 ∙ mul_right_comm n (down e) (2 ^ low f)))

-- no second `f32` has the value
pub exactly-one : (x y : Float) (n d : ℕ) → 0 < d → Exactly x n d → Exactly y n d → x ≡ y
exactly-one x y n d p h k =
    sym (of_bits-to_bits binary32 x h.holds)
    ∙ ap (of_bits binary32) (bits_of_value binary32 x false n d p h.value ∙ sym (bits_of_value binary32 y false n d p k.value))
    ∙ of_bits-to_bits binary32 y k.holds

-- ---- a whole number below 2 ^ 24, cast to an `f32` and divided by a power of two
cross : (a de n p : ℕ) → a * 1 ≡ n * de → a * 1 * p ≡ n * (1 * p * de)
cross a de n p h = ap (λ (z : ℕ). z * p) h ∙ simp (one-mul, mul_assoc, mul_comm p de)

div-at : (x : Float) (n k : ℕ) → HasValue x false n 1 → div binary32 x (fin false 1 (pos k)) ≡ round binary32 false n (2 ^ k)
unfolding div
div-at nan n k v = absurd v
div-at (inf t) n k v = absurd v
div-at (fin t m e) n k v =
    ap (λ (b : Bool). round binary32 (unlike b false) (m * up e * 1) (1 * 2 ^ k * down e)) v.0
    ∙ round_same binary32 false (m * up e * 1) (1 * 2 ^ k * down e) n (2 ^ k) (mul-pos (mul-pos (zero-lt-suc 0) (pow_pos k)) (down_pos e)) (pow_pos k)
    (cross (m * up e) (down e) n (2 ^ k) v.1)

pub quotient-exact : (n k : ℕ) → n < 2 ^ 24 → k ≤ 149 → Exactly (div binary32 (of_int binary32 (pos n)) (fin false 1 (pos k))) n (2 ^ k)
unfolding of_int
quotient-exact n k h l =
    let e = div-at (round binary32 false n 1) n k (round_whole binary32 false n (le_of_lt h)) in
    let j : 149 - k + k ≡ 149 = omega arith in
    let small : 24 + (149 - k) ≤ 277 = omega arith in
    record {
      holds = div-fits binary32 (round binary32 false n 1) (fin false 1 (pos k));
      value =
          subst (λ (x : Float). HasValue x false n (2 ^ k)) (sym e)
          (round_exact binary32 false n (2 ^ k) n (149 - k) (pow_pos k) h
          (lt_of_lt_of_le (shl_lt 24 (149 - k) h) (pow_mono small))
          (ap (λ (z : ℕ). n * 2 ^ z) (sym j) ∙ ap (λ (z : ℕ). n * z) (pow-add 2 (149 - k) k) ∙ sym (mul_assoc n (2 ^ (149 - k)) (2 ^ k))));
    }

pub zero-exact : (d : ℕ) → Exactly (fin false 0 (pos 0)) 0 d
unfolding fits
zero-exact d = record { holds = tt; value = (refl, zero-mul d) }
