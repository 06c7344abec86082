-- Casts between signed and unsigned.
-- Use: `index-asks w64 v tt h` is what `x as usize` asks of a number that is not negative, `index_is v tt h` what it gives; `n32` and `n64` read `n as i32` and `n as i64`. Assumes nothing.
use Rattle.std.specs.Prelude.{◌≡◌, ◌&&◌, ℕ, ◌<◌, ◌≤◌, ◌^◌, T, ltb, ℤ, pos, nat_abs, ◌≤ℤ◌}
use Rattle.std.proofs.Common.{sym, ◌∙◌, ap, subst, lt_of_le_of_lt, ltb→lt}
use Rattle.std.specs.Int.Signed.{non_neg, yes_non_neg, pos-nat_abs}
use Rattle.std.specs.Int.{Width, w32, w64}
use mir.Val.{Fits, to_z, bits, hbits}
use Rattle.std.proofs.Math.Facts.{to_z_pos}
use Rattle.whole.specs.laws.Bools.{T-left, T-right}
use Rattle.whole.specs.laws.Machine.{Val}

-- `x as usize`: what it asks, and what it gives
pub index-asks : (w : Width) {m : ℤ} (v : Val m) → T (v.ok && ltb v.n (2 ^ bits w)) → pos 0 ≤ℤ v.z → T (non_neg m) × Fits w (nat_abs m)
index-asks w {m} v t h =
    let o = T-left v.ok (ltb v.n (2 ^ bits w)) t in
    subst (λ (y : ℤ). T (non_neg y) × Fits w (nat_abs y)) (sym (v.is o).is)
    (yes_non_neg h, record { fits = lt_of_le_of_lt (v.is o).abs (ltb→lt v.n (2 ^ bits w) (T-right v.ok (ltb v.n (2 ^ bits w)) t)) })

pub index_is : {m : ℤ} (v : Val m) → T v.ok → pos 0 ≤ℤ v.z → pos (nat_abs m) ≡ v.z
index_is {m} v t h = ap (λ (y : ℤ). pos (nat_abs y)) (v.is t).is ∙ pos-nat_abs v.z (yes_non_neg h)

-- `n as i32`, `n as i64`
pub signed_is : (w : Width) (n k : ℕ) → n ≤ k → T (ltb k (2 ^ hbits w)) → to_z w n ≡ pos n
signed_is w n k h t = to_z_pos w (lt_of_le_of_lt h (ltb→lt k (2 ^ hbits w) t))

abbrev pub n32 : {n k : ℕ} → n ≤ k → Val (to_z w32 n)
n32 {n} {k} h = record { z = pos n; n = k; ok = ltb k (2 ^ 31); is = λ t. record { is = signed_is w32 n k h t; abs = h } }

abbrev pub n64 : {n k : ℕ} → n ≤ k → Val (to_z w64 n)
n64 {n} {k} h = record { z = pos n; n = k; ok = ltb k (2 ^ 63); is = λ t. record { is = signed_is w64 n k h t; abs = h } }
