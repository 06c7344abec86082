-- What a signed test of the code tells. The machine compares what it reads back from the bits; where both sides fit, that is the test of the numbers.
-- Use: `clean c.if1.taken (search (machine, flags, w64-in) depth 30) tt` turns the branch taken into a test of the numbers, which Order reads. Assumes nothing.
use Rattle.std.specs.Prelude.{◌≡◌, Bool, not, ◌&&◌, T, ℤ}
use Rattle.std.proofs.Common.{sym, ◌∙◌, ap, ap₂, SFits, to_z, of_z, to_z-of_z}
use Rattle.std.specs.Int.Signed.{le_z, lt_z}
use Rattle.std.specs.Int.{Width}
use Rattle.whole.specs.laws.Bools.{T-left, T-right}
use Rattle.whole.specs.laws.Machine.{Val}

-- from the machine's test to the numbers'
pub le_test : {w : Width} {a b : ℤ} {t : Bool} → SFits w a → SFits w b → le_z (to_z w (of_z w a)) (to_z w (of_z w b)) ≡ t → le_z a b ≡ t
le_test f g e = ap₂ le_z (sym (to_z-of_z f)) (sym (to_z-of_z g)) ∙ e

pub lt_test : {w : Width} {a b : ℤ} {t : Bool} → SFits w a → SFits w b → lt_z (to_z w (of_z w a)) (to_z w (of_z w b)) ≡ t → lt_z a b ≡ t
lt_test f g e = ap₂ lt_z (sym (to_z-of_z f)) (sym (to_z-of_z g)) ∙ e

-- ---- a test of the code, read as one of the numbers
pub record Flag (b : Bool) : Type 0 where
  pub t : Bool
  pub ok : Bool
  pub is : T ok → b ≡ t

abbrev pub f< : {a b : ℤ} → Val a → Val b → Flag (lt_z a b)
f< x y =
    record {
      t = lt_z x.z y.z;
      ok = x.ok && y.ok;
      is = λ o. ap₂ lt_z (x.is (T-left x.ok y.ok o)).is (y.is (T-right x.ok y.ok o)).is;
    }

abbrev pub f≤ : {a b : ℤ} → Val a → Val b → Flag (le_z a b)
f≤ x y =
    record {
      t = le_z x.z y.z;
      ok = x.ok && y.ok;
      is = λ o. ap₂ le_z (x.is (T-left x.ok y.ok o)).is (y.is (T-right x.ok y.ok o)).is;
    }

abbrev pub fnot : {b : Bool} → Flag b → Flag (not b)
fnot x = record { t = not x.t; ok = x.ok; is = λ o. ap not (x.is o) }

pub ruleset flags = (f<, f≤, fnot)

pub flag-as : {b : Bool} (f : Flag b) → T f.ok → b ≡ f.t
flag-as f o = f.is o

pub clean : {b t : Bool} → b ≡ t → (f : Flag b) → T f.ok → f.t ≡ t
clean e f o = sym (f.is o) ∙ e
