-- The fill by cases of the flag. Assumes nothing.
use mathlib.Core.Path.{◌≡◌, refl, sym, ap, ◌∙◌}
use mathlib.Core.List.{List}
use mathlib.Core.Bool.{Bool, true, not, ◌||◌}
use Prim.Native.Nat.{ℕ, zero, suc, ◌<◌}
use lib.IntN.{ℤ, pos}
use lib.ListN.{length, get_or}
use borrow.Author.Tests.{ne_eqb}
use Rattle.lattice.specs.Cell.{fill_of, mass_good}
use Rattle.lattice.specs.Lattice.{d3q19, density}
use Rattle.grid.specs.Step.{fill_for}
use Rattle.grid.proofs.Lists.{get_or-there}
use Rattle.fills.specs.inner.Filled.{fill_at, plain_fill, plain_at, fair_mass, fair_at}

-- ---- by the flag
pub plain-fluid : (f : ℕ) → f ≡ 2 → 65536 ≡ plain_fill f
unfolding plain_fill
plain-fluid f e = rw e refl

pub plain-dry : (f : ℕ) → (f ≡ 2 → ⊥) → 0 ≡ plain_fill f
unfolding plain_fill
plain-dry zero h = refl
plain-dry (suc zero) h = refl
plain-dry (suc (suc zero)) h = absurd (h refl)
plain-dry (suc (suc (suc n))) h = refl

fill-plain : (f : ℕ) (m ρ : ℤ) → (f ≡ 1 → ⊥) → plain_fill f ≡ fill_for f m ρ
unfolding plain_fill fill_for
fill-plain zero m ρ h = refl
fill-plain (suc zero) m ρ h = absurd (h refl)
fill-plain (suc (suc zero)) m ρ h = refl
fill-plain (suc (suc (suc n))) m ρ h = refl

fill-interface : (f : ℕ) (m ρ : ℤ) → f ≡ 1 → fill_of m ρ ≡ fill_for f m ρ
unfolding fill_for
fill-interface f m ρ e = rw e refl

fair-plain : (f : ℕ) (m : ℤ) → (f ≡ 1 → ⊥) → true ≡ fair_mass f m
unfolding fair_mass
fair-plain f m h = sym (ap (λ (b : Bool). not b || mass_good m) (ne_eqb f 1 h))

fair-interface : (f : ℕ) (m : ℤ) → f ≡ 1 → mass_good m ≡ fair_mass f m
unfolding fair_mass
fair-interface f m e = rw e refl

-- ---- of the flag as the code reads it
module _ (flags : List ℕ) (part : ℕ → ℕ → ℤ) (masses : List ℤ) (c : ℕ) (h : c < length flags) where
  pub fill-elsewhere : (get_or flags c 0 ≡ 1 → ⊥) → plain_at flags c ≡ fill_at flags part masses c
  unfolding plain_at fill_at
  fill-elsewhere n =
      ap plain_fill (get_or-there flags c 0 3 h)
      ∙ fill-plain (get_or flags c 3) (get_or masses c (pos 0)) (density d3q19 (part c)) (λ e. n (get_or-there flags c 0 3 h ∙ e))

  pub fill_here : get_or flags c 0 ≡ 1 → fill_of (get_or masses c (pos 0)) (density d3q19 (part c)) ≡ fill_at flags part masses c
  unfolding fill_at
  fill_here e = fill-interface (get_or flags c 3) (get_or masses c (pos 0)) (density d3q19 (part c)) (get_or-there flags c 3 0 h ∙ e)

  pub fair-elsewhere : (get_or flags c 0 ≡ 1 → ⊥) → true ≡ fair_at flags masses c
  unfolding fair_at
  fair-elsewhere n = fair-plain (get_or flags c 3) (get_or masses c (pos 0)) (λ e. n (get_or-there flags c 0 3 h ∙ e))

  pub fair-here : get_or flags c 0 ≡ 1 → mass_good (get_or masses c (pos 0)) ≡ fair_at flags masses c
  unfolding fair_at
  fair-here e = fair-interface (get_or flags c 3) (get_or masses c (pos 0)) (get_or-there flags c 3 0 h ∙ e)
