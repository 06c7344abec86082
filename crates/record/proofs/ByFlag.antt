-- What goes by a flag, where the flag is known to be of a kind: dry, liquid, interface, fluid. Assumes nothing.
use mathlib.Core.Path.{◌≡◌, refl, ap, ◌∙◌}
use mathlib.Core.Bool.{true, cond, false≢true}
use mathlib.Core.List.{List}
use Prim.Native.Nat.{ℕ, zero, suc, ◌<◌}
use native.Mathlib.Omega.{arith}
use lib.IntN.{ℤ, pos, nat_abs}
use lib.ListN.{get_or}
use Rattle.whole.specs.Fold.{tab}
use Rattle.whole.specs.laws.Machine.{Within}
use Rattle.whole.specs.laws.Tab.{get_or-tab}
use Rattle.lattice.specs.Lattice.{d3q19, density}
use Rattle.lattice.specs.inner.Held.{parts_of, Bounded}
use Rattle.grid.specs.State.{by_flag, liquid}
use Rattle.grid.specs.Step.{fill_for}
use Rattle.grid.proofs.Same.{density-same}

-- as the count of one cell says it
abbrev pub Dry : ℕ → Type 0
Dry f = ◌≡◌ {A = ℕ} (cond (liquid f) 1 0) 0

module _ {A : Type 0} where
  pub by-dry : (f : ℕ) (z a b : A) → Dry f → by_flag f z a b z ≡ z
  by-dry zero z a b e = refl
  by-dry (suc zero) z a b e = absurd (let q : ◌≡◌ {A = ℕ} 1 0 = e in omega arith)
  by-dry (suc (suc zero)) z a b e = absurd (let q : ◌≡◌ {A = ℕ} 1 0 = e in omega arith)
  by-dry (suc (suc (suc f))) z a b e = refl

  pub by-wet : (f : ℕ) (z a : A) → (Dry f → ⊥) → by_flag f z a a z ≡ a
  by-wet zero z a h = absurd (h refl)
  by-wet (suc zero) z a h = refl
  by-wet (suc (suc zero)) z a h = refl
  by-wet (suc (suc (suc f))) z a h = absurd (h refl)

  pub by-other : (f : ℕ) (z a b : A) → (f ≡ 1 → ⊥) → (f ≡ 2 → ⊥) → by_flag f z a b z ≡ z
  by-other zero z a b h k = refl
  by-other (suc zero) z a b h k = absurd (h refl)
  by-other (suc (suc zero)) z a b h k = absurd (k refl)
  by-other (suc (suc (suc f))) z a b h k = refl

  -- a choice within a choice
  pub by-twice : (f : ℕ) (z i a : A) → by_flag f z i (by_flag f z a a z) z ≡ by_flag f z i a z
  by-twice zero z i a = refl
  by-twice (suc zero) z i a = refl
  by-twice (suc (suc zero)) z i a = refl
  by-twice (suc (suc (suc f))) z i a = refl

pub wet : (f : ℕ) → (Dry f → ⊥) → liquid f ≡ true
wet zero h = absurd (h refl)
wet (suc zero) h = refl
wet (suc (suc zero)) h = refl
wet (suc (suc (suc f))) h = absurd (h refl)

pub by-liquid : (f : ℕ) (z : ℤ) → liquid f ≡ true → by_flag f (pos 0) z z (pos 0) ≡ z
by-liquid zero z e = absurd (false≢true e)
by-liquid (suc zero) z e = refl
by-liquid (suc (suc zero)) z e = refl
by-liquid (suc (suc (suc f))) z e = absurd (false≢true e)

-- a fill asks for the density of an interface cell alone
pub fill-twice : (f : ℕ) (m ρ : ℤ) → fill_for f m (by_flag f (pos 0) ρ ρ (pos 0)) ≡ fill_for f m ρ
unfolding fill_for
fill-twice zero m ρ = refl
fill-twice (suc zero) m ρ = refl
fill-twice (suc (suc zero)) m ρ = refl
fill-twice (suc (suc (suc f))) m ρ = refl

-- ---- nineteen parts in an array
module _ (g : ℕ → ℤ) (v : List ℤ) (is : v ≡ tab 19 g) where
  at : (k : ℕ) → k < 19 → parts_of v k ≡ g k
  at k h = ap (λ (l : List ℤ). get_or l k (pos 0)) is ∙ get_or-tab 19 g (pos 0) k h

  pub bounded-by : ((k : ℕ) → k < 19 → Within (g k) 1179648) → Bounded v 1073741824 33554432
  bounded-by h = record {
    rest = record { abs = omega (arith, ap nat_abs (at 0 (omega arith)), (h 0 (omega arith)).abs) };
    at = λ k z l. record { abs = omega (arith, ap nat_abs (at k l), (h k l).abs) };
  }

  pub density-by : density d3q19 (parts_of v) ≡ density d3q19 g
  unfolding d3q19
  density-by = density-same d3q19 (parts_of v) g (λ k h. at k (omega arith))
