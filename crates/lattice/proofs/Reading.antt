-- Readings of machine values beyond those of `whole`: a number whose bound is in reach, and a cut quotient whose divisor is known, so that the bound
-- shrinks with it. Use: as `machine`, with the ruleset `reading`. Assumes nothing.
use mathlib.Core.Path.{◌≡◌, refl, ap₂}
use mathlib.Core.Bool.{Bool, true, ◌&&◌}
use Prim.Native.Nat.{ℕ, ◌/◌, ◌<◌, ◌≤◌, ◌^◌}
use native.Mathlib.Nat.{le-div_iff_mul-le, div-mul-le_self, mul-le-mul_left, le_trans, le_of_eq}
use lib.Dec.{T, ltb, ltb→lt}
use mathlib.Core.List.{List, [], ◌∷◌}
use lib.IntN.{ℤ, pos, nat_abs}
use lib.Signed.{quot_z}
use mir.Syntax.{Width, w32}
use mir.Val.{SFits, to_z, of_z, hbits}
use mir.Facts.{to_z-of_z}
use Rattle.whole.specs.laws.Bools.{T-left, T-right}
use Rattle.whole.specs.laws.Bounds.{fits, abs-quot}
use Rattle.whole.specs.laws.Machine.{Val, Within, v+, v*, vneg, v64, v32, vpos, vnegsuc, any}

-- a number from its bound alone: that it fits is then computed
abbrev pub inside : {a : ℤ} {k : ℕ} → Within a k → Val a
inside {a} {k} h = record { z = a; n = k; ok = true; is = λ t. record { is = refl; abs = h.abs } }

-- a quotient by at least l
pub quot-abs : (a b : ℤ) (m l : ℕ) → nat_abs a ≤ m → 0 < l → l ≤ nat_abs b → nat_abs (quot_z a b) ≤ m / l
quot-abs a b m l h p k =
    le_trans (le_of_eq (abs-quot a b))
    ((le-div_iff_mul-le p).1 (le_trans (mul-le-mul_left (nat_abs a / nat_abs b) k) (le_trans (div-mul-le_self (nat_abs a) (nat_abs b)) h)))

-- by a numeral
pub record Num (b : ℤ) : Type 0 where
  pub k : ℕ
  pub is : b ≡ pos k

abbrev pub num : {k : ℕ} → Num (pos k)
num {k} = record { k = k; is = refl }

abbrev pub v/num : {a b : ℤ} → Val a → Num b → Val (quot_z a b)
v/num {a} {b} x y =
    record {
      z = quot_z x.z (pos y.k);
      n = x.n / y.k;
      ok = x.ok && ltb 0 y.k;
      is = λ t.
          let r = x.is (T-left x.ok (ltb 0 y.k) t) in
          record {
            is = ap₂ quot_z r.is y.is;
            abs = quot-abs x.z (pos y.k) x.n y.k r.abs (ltb→lt 0 y.k (T-right x.ok (ltb 0 y.k) t)) (le_of_eq refl);
          };
    }

-- by a number of at least l
pub record Least (b : ℤ) : Type 0 where
  pub z : ℤ
  pub l : ℕ
  pub ok : Bool
  pub is : T ok → b ≡ z
  pub low : l ≤ nat_abs z

abbrev pub at_least : (w : Width) (a : ℤ) (n l : ℕ) → Within a n → l ≤ nat_abs a → Least (to_z w (of_z w a))
at_least w a n l h k = record { z = a; l = l; ok = ltb n (2 ^ hbits w); is = λ t. to_z-of_z (fits ((inside h).is tt) t); low = k }

abbrev pub is-least : (a : ℤ) (l : ℕ) → l ≤ nat_abs a → Least a
is-least a l k = record { z = a; l = l; ok = true; is = λ t. refl; low = k }

abbrev pub least-val : {m : ℤ} (v : Val m) (l : ℕ) → l ≤ nat_abs v.z → Least m
least-val v l k = record { z = v.z; l = l; ok = v.ok; is = λ t. (v.is t).is; low = k }

abbrev pub v/least : {a b : ℤ} → Val a → Least b → Val (quot_z a b)
v/least x y =
    record {
      z = quot_z x.z y.z;
      n = x.n / y.l;
      ok = x.ok && (y.ok && ltb 0 y.l);
      is = λ t.
          let o = T-right x.ok (y.ok && ltb 0 y.l) t in
          let r = x.is (T-left x.ok (y.ok && ltb 0 y.l) t) in
          record {
            is = ap₂ quot_z r.is (y.is (T-left y.ok (ltb 0 y.l) o));
            abs = quot-abs x.z y.z x.n y.l r.abs (ltb→lt 0 y.l (T-right y.ok (ltb 0 y.l) o)) y.low;
          };
    }

pub ruleset reading = (v+, v*, v/num, num, v/least, vneg, v64, v32, vpos, vnegsuc, inside)

-- a field or a parameter of 32 bits of which nothing else is known
abbrev pub whole32 : {a : ℤ} → SFits w32 a → Val (to_z w32 (of_z w32 a))
whole32 {a} h = any w32 a h.sfits

-- ---- a list of values, read at once
pub record Vals (l : List ℤ) : Type 0 where
  pub zs : List ℤ
  pub ok : Bool
  pub is : T ok → l ≡ zs

abbrev pub vnil : Vals []
vnil = record { zs = []; ok = true; is = λ t. refl }

abbrev pub vcons : {a : ℤ} {l : List ℤ} → Val a → Vals l → Vals (a ∷ l)
vcons x y =
    record {
      zs = x.z ∷ y.zs;
      ok = x.ok && y.ok;
      is = λ t. ap₂ ◌∷◌ (x.is (T-left x.ok y.ok t)).is (y.is (T-right x.ok y.ok t));
    }

pub list-as : {l : List ℤ} (v : Vals l) → T v.ok → l ≡ v.zs
list-as v t = v.is t
