-- What the machine computes, read as a whole number with a bound, found by `search machine`. `Val m`: the machine's m is the number z within ±n, provided
-- that every stored value in it fits, which is the test `ok` and computes where the bounds are numerals.
-- Use: `does-fit (search (machine, w64-in) depth 30 fits 5000) tt` proves that a result fits, `reads_as (search (machine, w64-in) depth 30 fits 5000) tt`
-- that it is the number meant; bounds in reach are stated as `Within z k`. Assumes nothing.
use Rattle.std.specs.Prelude.{◌≡◌, refl, Bool, true, ◌&&◌, ℕ, suc, ◌+◌, ◌*◌, ◌/◌, ◌<◌, ◌≤◌, ◌^◌, T, ltb, leb, ℤ, pos, negsuc, neg_ℤ, nat_abs, ◌+ℤ◌, ◌-ℤ◌, ◌*ℤ◌, ◌≤ℤ◌}
use Rattle.std.proofs.Common.{sym, ◌∙◌, ap, subst, arith, leb→le, le_trans, le_of_eq}
use Rattle.std.specs.Int.Signed.{quot_z, nat_abs-le, mag}
use Rattle.std.specs.Int.{Width, w32, w64}
use mir.Val.{SFits, to_z, of_z, hbits}
use Rattle.whole.specs.laws.Bools.{T-left, T-right}
use Rattle.whole.specs.laws.Bounds.{Reads, fits, held, arg, lit, plus, times, over, nonzero, abs_neg}

pub record Val (m : ℤ) : Type 0 where
  pub z : ℤ
  pub n : ℕ
  pub ok : Bool
  pub is : T ok → Reads m z n

pub negated : {a x : ℤ} {m : ℕ} → Reads a x m → Reads (neg_ℤ a) (neg_ℤ x) m
negated {x = x} r = record { is = ap neg_ℤ r.is; abs = omega (arith, abs_neg x, r.abs) }

abbrev pub v+ : {a b : ℤ} → Val a → Val b → Val (a +ℤ b)
v+ x y =
    record {
      z = x.z +ℤ y.z;
      n = x.n + y.n;
      ok = x.ok && y.ok;
      is = λ t. plus (x.is (T-left x.ok y.ok t)) (y.is (T-right x.ok y.ok t));
    }

abbrev pub v* : {a b : ℤ} → Val a → Val b → Val (a *ℤ b)
v* x y =
    record {
      z = x.z *ℤ y.z;
      n = x.n * y.n;
      ok = x.ok && y.ok;
      is = λ t. times (x.is (T-left x.ok y.ok t)) (y.is (T-right x.ok y.ok t));
    }

abbrev pub v/ : {a b : ℤ} → Val a → Val b → Val (quot_z a b)
v/ x y =
    record {
      z = quot_z x.z y.z;
      n = x.n;
      ok = x.ok && y.ok;
      is = λ t. over (x.is (T-left x.ok y.ok t)) (y.is (T-right x.ok y.ok t));
    }

abbrev pub vneg : {a : ℤ} → Val a → Val (neg_ℤ a)
vneg x = record { z = neg_ℤ x.z; n = x.n; ok = x.ok; is = λ t. negated (x.is t) }

abbrev pub vheld : (w : Width) {a : ℤ} → Val a → Val (to_z w (of_z w a))
vheld w x =
    record {
      z = x.z;
      n = x.n;
      ok = x.ok && ltb x.n (2 ^ hbits w);
      is = λ t. held w (x.is (T-left x.ok (ltb x.n (2 ^ hbits w)) t)) (T-right x.ok (ltb x.n (2 ^ hbits w)) t);
    }

abbrev pub v64 : {a : ℤ} → Val a → Val (to_z w64 (of_z w64 a))
v64 x = vheld w64 x

abbrev pub v32 : {a : ℤ} → Val a → Val (to_z w32 (of_z w32 a))
v32 x = vheld w32 x

abbrev pub vpos : {k : ℕ} → Val (pos k)
vpos {k} = record { z = pos k; n = k; ok = true; is = λ t. lit (pos k) }

abbrev pub vnegsuc : {k : ℕ} → Val (negsuc k)
vnegsuc {k} = record { z = negsuc k; n = suc k; ok = true; is = λ t. lit (negsuc k) }

pub ruleset machine = (v+, v*, v/, vneg, v64, v32, vpos, vnegsuc)

-- a parameter, from its bound
abbrev pub given : {w : Width} {a : ℤ} {k : ℕ} → SFits w a → nat_abs a ≤ k → Val (to_z w (of_z w a))
given {a = a} {k = k} f h = record { z = a; n = k; ok = true; is = λ t. arg f h }

-- the two uses: it fits; it is the number
pub does-fit : {w : Width} {m : ℤ} (v : Val m) → T (v.ok && ltb v.n (2 ^ hbits w)) → SFits w m
does-fit {w} v t = fits (v.is (T-left v.ok (ltb v.n (2 ^ hbits w)) t)) (T-right v.ok (ltb v.n (2 ^ hbits w)) t)

pub reads_as : {m : ℤ} (v : Val m) → T v.ok → m ≡ v.z
reads_as v t = (v.is t).is

pub not-zero : (w : Width) {m : ℤ} (v : Val m) → T (v.ok && ltb v.n (2 ^ hbits w)) → 0 < nat_abs v.z → 0 < of_z w m
not-zero w v t h = nonzero w (v.is (T-left v.ok (ltb v.n (2 ^ hbits w)) t)) (T-right v.ok (ltb v.n (2 ^ hbits w)) t) h

-- a value of which only the width is known, as an element that was read
abbrev pub any : (w : Width) (a : ℤ) → mag a < 2 ^ hbits w → Val (to_z w (of_z w a))
any w a h = given {w = w} {a = a} (record { sfits = h }) (nat_abs-le a h)

-- a value read from a local's bits, as a loop's invariant has it
abbrev pub known : (a : ℤ) (k : ℕ) → nat_abs a ≤ k → Val a
known a k h = record { z = a; n = k; ok = true; is = λ t. record { is = refl; abs = h } }

-- a call's result, from what it ensures
abbrev pub same : {a b : ℤ} → a ≡ b → Val b → Val a
same e v = record { z = v.z; n = v.n; ok = v.ok; is = λ t. record { is = e ∙ (v.is t).is; abs = (v.is t).abs } }

-- a bound of what the machine reads, as a callee asks it
pub abs-of : {m : ℤ} (v : Val m) (k : ℕ) → T (v.ok && leb v.n k) → nat_abs m ≤ k
abs-of v k t =
    let r = v.is (T-left v.ok (leb v.n k) t) in
    le_trans (le_of_eq (ap nat_abs r.is)) (le_trans r.abs (leb→le v.n k (T-right v.ok (leb v.n k) t)))

-- any fact of the number is one of what the machine reads
pub as_read : (P : ℤ → Type 0) {m : ℤ} (v : Val m) → T v.ok → P v.z → P m
as_read P v t p = subst P (sym (v.is t).is) p

-- a bound as a record, so that the number can be inferred: for contracts
pub record Within (z : ℤ) (k : ℕ) : Type 0 where
  pub abs : nat_abs z ≤ k

abbrev pub w64-in : {a : ℤ} {k : ℕ} → SFits w64 a → Within a k → Val (to_z w64 (of_z w64 a))
w64-in f h = given f h.abs

pub within_by : {m : ℤ} {k : ℕ} (v : Val m) → T (v.ok && leb v.n k) → Within m k
within_by {m} {k} v t = record { abs = abs-of v k t }
