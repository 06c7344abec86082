-- Readings of the machine's numbers in stage 6: what a call answered, a sign turned, a test on the bits. Assumes nothing.
use mathlib.Core.Path.{◌≡◌, sym, ap, ◌∙◌}
use mathlib.Core.List.{List}
use Prim.Native.Nat.{ℕ, ◌<◌}
use lib.IntN.{ℤ, pos, neg_ℤ, ◌-ℤ◌, +ℤ_idl}
use lib.Signed.{mag}
use mir.Syntax.{w32, w64}
use mir.Val.{SFits, to_z, of_z}
use mir.Facts.{to_z-of_z}
use borrow.Author.Rules.{sfits_of}
use borrow.Author.Tests.{eq-eqb, ne_eqb}
use Rattle.whole.specs.laws.Bools.{cond_yes, cond_no}
use Rattle.whole.specs.laws.Machine.{Val, Within, does-fit, reads_as, known, same, v+, vneg, v32, vpos}
use Rattle.grid.specs.inner.Passes.{normal_at}
use Rattle.excess.specs.inner.Gifts.{back, leaning_at}

pub less_none : (x : ℤ) → pos 0 -ℤ x ≡ neg_ℤ x
less_none x = +ℤ_idl (neg_ℤ x)

-- a call's result, and the same with its sign turned
pub told : {x z : ℤ} → mag x < 2147483648 → x ≡ z → to_z w32 (of_z w32 x) ≡ z
told f e = to_z-of_z (sfits_of {w = w32} f) ∙ e

pub told64 : {x z : ℤ} → mag x < 9223372036854775808 → x ≡ z → to_z w64 (of_z w64 x) ≡ z
told64 f e = to_z-of_z (sfits_of {w = w64} f) ∙ e

-- a test against 0 is made on the bits
pub bits-zero : {z : ℤ} → mag z < 9223372036854775808 → of_z w64 z ≡ 0 → z ≡ pos 0
bits-zero {z} f e = sym (to_z-of_z (sfits_of {w = w64} {z = z} f)) ∙ ap (to_z w64) e

pub zero_bits : {z : ℤ} → z ≡ pos 0 → of_z w64 z ≡ 0
zero_bits e = ap (of_z w64) e

-- a value that is known to be z, within a bound
abbrev pub held_in : {x z : ℤ} {k : ℕ} → x ≡ z → Within z k → Val x
held_in {z = z} {k = k} e h = same e (known z k h.abs)

-- a component of a normal with its sign turned
pub turned-fits : {x : ℤ} → Within x 131072 → SFits w32 (pos 0 -ℤ to_z w32 (of_z w32 x))
turned-fits {x} h = does-fit (v+ vpos (vneg (v32 (known x 131072 h.abs)))) tt

pub turned : {x : ℤ} → Within x 131072 → to_z w32 (of_z w32 (pos 0 -ℤ to_z w32 (of_z w32 x))) ≡ neg_ℤ x
turned {x} h = reads_as (v32 (v+ vpos (vneg (v32 (known x 131072 h.abs))))) tt ∙ less_none x

module _ (flags fills off : List ℕ) (k m : ℕ) where
  pub leaning-filled : m ≡ 1 → normal_at flags fills off k ≡ leaning_at flags fills off k m
  unfolding leaning_at
  leaning-filled e = sym (cond_yes (normal_at flags fills off k) (back (normal_at flags fills off k)) (eq-eqb m 1 e))

  pub leaning-emptied : (m ≡ 1 → ⊥) → back (normal_at flags fills off k) ≡ leaning_at flags fills off k m
  unfolding leaning_at
  leaning-emptied n = sym (cond_no (normal_at flags fills off k) (back (normal_at flags fills off k)) (ne_eqb m 1 n))
