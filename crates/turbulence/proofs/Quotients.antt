-- A quotient by products: with floor(2^43/d) at hand, one product and a shift give u/d or one less, for u up to 2^43. Assumes nothing.
use mathlib.Core.Path.{◌≡◌, sym}
use Prim.Native.Nat.{ℕ, ◌+◌, ◌*◌, ◌-◌, ◌/◌, ◌%◌, ◌<◌, ◌≤◌}
use native.Mathlib.Nat.{le_refl, le_of_lt, div-add-mod, div-mul-le_self, div-lt_iff_lt-mul, mod-lt, div-eq_of_lt-le, mul-le-mul, mul-le-mul_left}
use native.Mathlib.Omega.{arith}

-- the losses together: by the shift and by the reciprocal
two-most : (u d x y z : ℕ) → 0 < d → x + d ≤ 8796093022208 * y + 8796093022208 * d → 8796093022208 * u ≤ x + z → z ≤ 8796093022208 * d → u < y + d + d
two-most u d x y z h k l m = omega arith

module _ (u d i : ℕ) (some : 0 < d) (most : u ≤ 1179648 * d) (few : u ≤ 8796093022208) (low : i * d ≤ 8796093022208) (high : 8796093022208 < (i + 1) * d) where
  -- the estimate
  abbrev e : ℕ
  e = u * i / 8796093022208

  pub product-most : u * i < 18446744073709551616
  product-most = omega (arith, mul-le-mul most (le_refl i))

  pub not-above : e * d ≤ u
  not-above =
      let h : 8796093022208 * e ≤ u * i = omega (arith, div-add-mod (u * i) 8796093022208) in
      omega (arith, mul-le-mul_left d h, mul-le-mul_left u low)

  by-shift : d * (u * i) + d ≤ 8796093022208 * (e * d) + 8796093022208 * d
  by-shift =
      let h : u * i + 1 ≤ 8796093022208 * e + 8796093022208 = omega (arith, div-add-mod (u * i) 8796093022208, mod-lt (u * i) {m = 8796093022208} (omega arith)) in
      let l = mul-le-mul_left d h in
      omega (arith, l)

  by_reciprocal : 8796093022208 * u ≤ d * (u * i) + u * d
  by_reciprocal = let l = mul-le-mul_left u (le_of_lt high) in omega (arith, l)

  pub one_below : u < e * d + d + d
  one_below = two-most u d (d * (u * i)) (e * d) (u * d) some by-shift by_reciprocal (omega (arith, mul-le-mul_left d few))

  pub exact : u - e * d < d → e ≡ u / d
  exact h = sym (div-eq_of_lt-le d (omega (arith, not-above)) (omega (arith, not-above)))

  pub one_more : d ≤ u - e * d → e + 1 ≡ u / d
  one_more h = sym (div-eq_of_lt-le d (omega (arith, not-above)) (omega (arith, not-above, one_below)))

pub share-most : (u d : ℕ) → 0 < d → u ≤ 1179648 * d → u / d ≤ 1179648
share-most u d h k =
    let l : u / d < 1179649 = div-lt u d h k in
    omega arith
  where
    div-lt : (u d : ℕ) → 0 < d → u ≤ 1179648 * d → u / d < 1179649
    div-lt u d h k = (div-lt_iff_lt-mul h).1 (omega arith)

-- ---- the reciprocal is floor(2^43/d)
module _ (d : ℕ) (some : 0 < d) where
  pub inverse-low : 8796093022208 / d * d ≤ 8796093022208
  inverse-low = div-mul-le_self 8796093022208 d

  pub inverse-high : 8796093022208 < (8796093022208 / d + 1) * d
  inverse-high = omega (arith, div-add-mod 8796093022208 d, mod-lt 8796093022208 {m = d} some)
