-- Equal whole numbers: the test `eq_z`, and the machine's test of the bits. Assumes nothing.
use mathlib.Core.Path.{◌≡◌, refl, sym, ◌∙◌, ap}
use mathlib.Core.Bool.{true, false, false≢true}
use lib.Dec.{eqb}
use lib.IntN.{ℤ, pos, negsuc, ℤ_discrete}
use borrow.Author.Tests.{eq-eqb, ne_eqb, eqb-true}
use mir.Syntax.{Width}
use mir.Val.{SFits, to_z, of_z}
use mir.Facts.{to_z-of_z}
use Rattle.lattice.specs.Body.{eq_z}

pub eq_z-same : (a : ℤ) → eq_z a a ≡ true
eq_z-same (pos n) = eq-eqb n n refl
eq_z-same (negsuc n) = eq-eqb n n refl

pub eq_z-apart : (a b : ℤ) → (a ≡ b → ⊥) → eq_z a b ≡ false
eq_z-apart (pos a) (pos b) h = ne_eqb a b (λ e. h (ap pos e))
eq_z-apart (pos a) (negsuc b) h = refl
eq_z-apart (negsuc a) (pos b) h = refl
eq_z-apart (negsuc a) (negsuc b) h = ne_eqb a b (λ e. h (ap negsuc e))

pub eq_z-true : (a b : ℤ) → eq_z a b ≡ true → a ≡ b
eq_z-true (pos a) (pos b) e = ap pos (eqb-true a b e)
eq_z-true (pos a) (negsuc b) e = absurd (false≢true e)
eq_z-true (negsuc a) (pos b) e = absurd (false≢true e)
eq_z-true (negsuc a) (negsuc b) e = ap negsuc (eqb-true a b e)

-- numbers that fit are equal where their bits are
pub bits-eq_z : (w : Width) (a b : ℤ) → SFits w a → SFits w b → eqb (of_z w a) (of_z w b) ≡ eq_z a b
bits-eq_z w a b f g = go (ℤ_discrete a b)
  where
    go : Dec (a ≡ b) → eqb (of_z w a) (of_z w b) ≡ eq_z a b
    go (yes e) = eq-eqb (of_z w a) (of_z w b) (ap (of_z w) e) ∙ sym (ap (eq_z a) (sym e) ∙ eq_z-same a)
    go (no n) = ne_eqb (of_z w a) (of_z w b) (λ k. n (sym (to_z-of_z f) ∙ ap (to_z w) k ∙ to_z-of_z g)) ∙ sym (eq_z-apart a b n)
