-- The equilibrium by pairs: of w·Q/72ρ the even part of Q is divided by 6ρ, e·j is added or taken away, and the rest is a quotient by 12/w. In a flow that
-- passes stage 3's test Q is above 0 in every direction, and the even share is at least |e·j|. Assumes nothing.
use mathlib.Core.Path.{◌≡◌, sym, ◌∙◌, ap}
use mathlib.Core.List.{[], ◌∷◌}
use Prim.Native.Nat.{ℕ, zero, suc, ◌+◌, ◌*◌, ◌-◌, ◌/◌, ◌%◌, ◌<◌, ◌≤◌}
use native.Mathlib.Nat.{div-add-mod, mod-lt, div-eq_of_lt-le, mul-le-mul_left}
use native.Mathlib.Omega.{arith}
use lib.IntN.{ℤ, pos, nat_abs, ◌+ℤ◌, ◌-ℤ◌, ◌*ℤ◌}
use lib.Signed.{◌≤ℤ◌, quot_z, pos-nat_abs, yes_non_neg}
use Rattle.whole.specs.laws.Parts.{is-self, is_pos, is-add, is-neg, is_le, eq_is, abs-parts}
use Rattle.whole.specs.laws.Ring.{ring-by, quotes}

-- ---- a ± d, where |d| is at most a
module _ (a : ℕ) (d : ℤ) (h : nat_abs d ≤ a) where
  pub plus-up : pos 0 ≤ℤ (pos a +ℤ d)
  plus-up = is_le (is_pos 0) (is-add (is_pos a) (is-self d)) (omega (arith, abs-parts d))

  pub minus-up : pos 0 ≤ℤ (pos a -ℤ d)
  minus-up = is_le (is_pos 0) (is-add (is_pos a) (is-neg (is-self d))) (omega (arith, abs-parts d))

  pub plus-is : pos (nat_abs (pos a +ℤ d)) ≡ pos a +ℤ d
  plus-is = pos-nat_abs (pos a +ℤ d) (yes_non_neg plus-up)

  pub minus_is : pos (nat_abs (pos a -ℤ d)) ≡ pos a -ℤ d
  minus_is = pos-nat_abs (pos a -ℤ d) (yes_non_neg minus-up)

  pub two-sums : nat_abs (pos a +ℤ d) + nat_abs (pos a -ℤ d) ≡ 2 * a
  two-sums =
      omega (
        arith,
        eq_is (is_pos (nat_abs (pos a +ℤ d))) (is-add (is_pos a) (is-self d)) plus-is,
        eq_is (is_pos (nat_abs (pos a -ℤ d))) (is-add (is_pos a) (is-neg (is-self d))) minus_is,
      )

-- ---- the quotient in two steps: by 6r, and by n where w·n is 12
module _ (w n : ℕ) (some : 0 < w) (twelve : w * n ≡ 12) (r x m : ℕ) (h : m < 6 * r) where
  n-some : (n : ℕ) → w * n ≡ 12 → 0 < n
  n-some zero e = absurd (omega (arith, e))
  n-some (suc n) e = omega arith

  pub in_two : w * (6 * r * x + m) / (72 * r) ≡ x / n
  in_two =
      let q = x / n in
      let t = x % n in
      let e : 6 * r * w * (n * q + t) ≡ 6 * r * w * x = ap (λ (y : ℕ). 6 * r * w * y) (div-add-mod x n) in
      let f : 6 * r * q * (w * n) ≡ 6 * r * q * 12 = ap (λ (y : ℕ). 6 * r * q * y) twelve in
      let g : 6 * r * (w * n) ≡ 6 * r * 12 = ap (λ (y : ℕ). 6 * r * y) twelve in
      let l : suc t ≤ n = mod-lt x {m = n} (n-some n twelve) in
      let k = mul-le-mul_left (6 * r * w) l in
      let o = mul-le-mul_left w h in
      div-eq_of_lt-le (72 * r) (omega arith) (omega arith)

-- ---- the same of whole numbers: u is the even part of Q, d is e·j
module _ (r u : ℕ) (d : ℤ) (some : 0 < r) (h : nat_abs d ≤ u / (6 * r)) where
  abbrev a : ℕ
  a = u / (6 * r)

  abbrev rest : ℕ
  rest = u % (6 * r)

  rest-less : rest < 6 * r
  rest-less = mod-lt u {m = 6 * r} (omega arith)

  moved : (b a m d : ℤ) → b *ℤ a +ℤ m +ℤ b *ℤ d ≡ b *ℤ (a +ℤ d) +ℤ m
  moved b a m d = ring-by (b ∷ a ∷ m ∷ d ∷ []) (search quotes depth 20) (search quotes depth 20) tt

  whole_is : pos u +ℤ pos (6 * r) *ℤ d ≡ pos (6 * r * nat_abs (pos a +ℤ d) + rest)
  whole_is =
      ap (λ (n : ℕ). pos n +ℤ pos (6 * r) *ℤ d) (sym (div-add-mod u (6 * r)))
      ∙ moved (pos (6 * r)) (pos a) (pos rest) d
      ∙ ap (λ (z : ℤ). pos (6 * r) *ℤ z +ℤ pos rest) (sym (plus-is a d h))

  pub parted : (w n : ℕ) → 0 < w → w * n ≡ 12 → quot_z (pos w *ℤ (pos u +ℤ pos (6 * r) *ℤ d)) (pos (72 * r)) ≡ pos (nat_abs (pos a +ℤ d) / n)
  parted w n o t =
      ap (λ (z : ℤ). quot_z (pos w *ℤ z) (pos (72 * r))) whole_is
      ∙ ap pos (in_two w n o t r (nat_abs (pos a +ℤ d)) rest rest-less)
