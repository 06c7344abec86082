-- Stage 5's new flag by what decides it. A marked cell is interface, so its mark alone decides. Assumes nothing.
use borrow.Author.Tests.{ne_eqb, eqb-true}
use mathlib.Core.Path.{◌≡◌, refl}
use mathlib.Core.Bool.{Bool, true, false, ◌&&◌}
use Prim.Native.Nat.{ℕ, zero, suc, ◌<◌}
use native.Mathlib.Omega.{arith}
use native.Mathlib.Decide.{ℕ_discrete}
use lib.Dec.{eqb}
use Rattle.whole.specs.laws.Bools.{and_left, and_right}
use Rattle.grid.specs.Step.{flag_after}

-- a marked cell is interface
pub marked : (f m : ℕ) → ((f ≡ 1 → ⊥) → m ≡ 0) → (m ≡ 0 → ⊥) → f ≡ 1
marked f m h k = by (ℕ_discrete f 1)
  where
    by : Dec (f ≡ 1) → f ≡ 1
    by (yes e) = e
    by (no g) = absurd (k (h g))

module _ (f m : ℕ) (filled emptied : Bool) where
  abbrev Is : ℕ → Type 0
  Is r = r ≡ flag_after f filled (eqb m 1) (eqb m 2) emptied

  pub filled-flag : ((f ≡ 1 → ⊥) → m ≡ 0) → m ≡ 1 → Is 2
  filled-flag h e = let i : f ≡ 1 = marked f m h (λ z. absurd (omega arith)) in rw (i, e) refl

  pub emptied-flag : ((f ≡ 1 → ⊥) → m ≡ 0) → m ≡ 2 → Is 0
  emptied-flag h e = let i : f ≡ 1 = marked f m h (λ z. absurd (omega arith)) in rw (i, e) refl

  pub born-flag : (eqb f 0 && filled) ≡ true → Is 1
  born-flag e = rw (eqb-true f 0 (and_left (eqb f 0) filled e), and_right (eqb f 0) filled e) refl

  pub bared-flag : (eqb f 2 && emptied) ≡ true → Is 1
  bared-flag e = rw (eqb-true f 2 (and_left (eqb f 2) emptied e), and_right (eqb f 2) emptied e) refl

-- a wall stays wall
pub wall-after : (f : ℕ) (a b d e : Bool) → f ≡ 3 → f ≡ flag_after f a b d e
wall-after f a b d e p = rw p refl

-- nothing changes
pub kept-flag : (f m : ℕ) (filled emptied : Bool) → f < 4 → (m ≡ 1 → ⊥) → (m ≡ 2 → ⊥) → (eqb f 0 && filled) ≡ false → (eqb f 2 && emptied) ≡ false
    → f ≡ flag_after f filled (eqb m 1) (eqb m 2) emptied
kept-flag zero m filled emptied h j k e g = rw e refl
kept-flag (suc zero) m filled emptied h j k e g = rw (ne_eqb m 1 j, ne_eqb m 2 k) refl
kept-flag (suc (suc zero)) m filled emptied h j k e g = rw g refl
kept-flag (suc (suc (suc zero))) m filled emptied h j k e g = refl
kept-flag (suc (suc (suc (suc f)))) m filled emptied h j k e g = absurd (omega arith)
