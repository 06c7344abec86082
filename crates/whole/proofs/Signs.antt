-- The magnitude of a signed number as the code finds it: by `!x as u64 + 1` where x is negative and by `x as u64` where it is not.
-- Assumes nothing.
use mathlib.Core.Path.{◌≡◌, refl, ap, ◌∙◌}
use mathlib.Core.Bool.{true, false, true≢false}
use Prim.Native.Nat.{ℕ, suc, ◌+◌, ◌^◌, ◌-◌, ◌<◌}
use native.Mathlib.Omega.{arith}
use lib.Dec.{T}
use lib.IntN.{ℤ, pos, negsuc, nat_abs}
use lib.Signed.{lt_z, non_neg}
use borrow.Author.Tests.{ltb-true}
use mir.Syntax.{Width}
use mir.Val.{bits, hbits, Fits, SFits, to_z, of_z}
use mir.ValLaws.{to_z_pos, half_full}

-- u, read as a signed number, may be cast and is m
pub record Cast (w : Width) (u m : ℕ) : Type 0 where
  pub may : T (non_neg (to_z w u))
  pub fits : Fits w (nat_abs (to_z w u))
  pub is : nat_abs (to_z w u) ≡ m
  pub low : m < 2 ^ hbits w

cast-as : (w : Width) (u m : ℕ) → u ≡ m → m < 2 ^ hbits w → Cast w u m
cast-as w u m e h =
    let p : to_z w u ≡ pos m = ap (to_z w) e ∙ to_z_pos w m h in
    record { may = rw p tt; fits = rw p (record { fits = half_full w h }); is = ap nat_abs p; low = h }

pub below : (w : Width) (z : ℤ) → SFits w z → lt_z z (pos 0) ≡ true → Cast w (2 ^ bits w - 1 - of_z w z) (nat_abs z - 1)
below w (pos n) f t = absurd (let k : n < 0 = ltb-true n 0 t in omega arith)
below w (negsuc k) f t =
    let h = half_full w f.sfits in
    let e : suc k - 1 ≡ k = omega arith in
    rw e (cast-as w (2 ^ bits w - 1 - (2 ^ bits w - suc k)) k (omega arith) f.sfits)

pub above : (w : Width) (z : ℤ) → SFits w z → lt_z z (pos 0) ≡ false → Cast w (of_z w z) (nat_abs z)
above w (pos n) f t = cast-as w n n refl f.sfits
above w (negsuc k) f t = absurd (true≢false t)

-- a negative number has a magnitude
pub some : (z : ℤ) → lt_z z (pos 0) ≡ true → 0 < nat_abs z
some (pos n) t = absurd (let k : n < 0 = ltb-true n 0 t in omega arith)
some (negsuc k) t = omega arith
