-- Closed: from a closed state the next flags are closed, so that stage 7 need not test them again; and they are flags, with the outer layer wall.
-- For any lattice with paired directions, any grid laid on it, and any relaxation. The idea: a new fluid cell was fluid with no emptied neighbour, or is
-- filled; a new empty cell was empty with no filled neighbour, or is emptied, which no cell beside a filled one is. Assumes nothing.
use mathlib.Core.Path.{◌≡◌, refl, sym, ◌∙◌, subst}
use mathlib.Core.Logic.{◌⊎◌, inl, inr}
use mathlib.Core.Bool.{Bool, true, false, ◌&&◌, not, false≢true}
use Prim.Native.Nat.{ℕ, zero, suc, ◌≤◌, ◌<◌}
use native.Mathlib.Omega.{arith}
use Rattle.whole.specs.Fold.{Dir}
use Rattle.whole.specs.laws.Search.{any-dir}
use Rattle.lattice.specs.Cell.{under}
use Rattle.lattice.proofs.Paired.{Paired}
use Rattle.grid.specs.State.{Scene, by_flag}
use Rattle.grid.specs.Step.{filled, emptied, beside_filled, beside_emptied, new_flag, flag_after, traded_mass, streamed_density}
use Rattle.grid.specs.Demands.{Walled, Closed}
use Rattle.grid.proofs.Laid.{Laid, inner}

abbrev pub Claim : Type 0
Claim =
    (S : Scene) → Paired S.lat → Laid S.lat S.grid → Walled S.grid S.old.flag → Closed S.lat.q S.grid S.old.flag
    → Closed S.lat.q S.grid (new_flag S)

-- ---- by cases on flags and tests alone

fluid-cases : (f : ℕ) (bf fi em be : Bool) → flag_after f bf fi em be ≡ 2
    → ((f ≡ 2) × (be ≡ false)) ⊎ ((f ≡ 1) × (fi ≡ true))
fluid-cases zero true fi em be e = absurd (omega arith)
fluid-cases zero false fi em be e = absurd (omega arith)
fluid-cases (suc zero) bf true em be e = inr (refl, refl)
fluid-cases (suc zero) bf false true be e = absurd (omega arith)
fluid-cases (suc zero) bf false false be e = absurd (omega arith)
fluid-cases (suc (suc zero)) bf fi em true e = absurd (omega arith)
fluid-cases (suc (suc zero)) bf fi em false e = inl (refl, refl)
fluid-cases (suc (suc (suc n))) bf fi em be e = absurd (omega arith)

empty-cases : (f : ℕ) (bf fi em be : Bool) → flag_after f bf fi em be ≡ 0
    → ((f ≡ 0) × (bf ≡ false)) ⊎ (em ≡ true)
empty-cases zero true fi em be e = absurd (omega arith)
empty-cases zero false fi em be e = inl (refl, refl)
empty-cases (suc zero) bf true em be e = absurd (omega arith)
empty-cases (suc zero) bf false true be e = inr refl
empty-cases (suc zero) bf false false be e = absurd (omega arith)
empty-cases (suc (suc zero)) bf fi em true e = absurd (omega arith)
empty-cases (suc (suc zero)) bf fi em false e = absurd (omega arith)
empty-cases (suc (suc (suc n))) bf fi em be e = absurd (omega arith)

lone-cases : (f : ℕ) (u b : Bool) → by_flag f false (u && not b) false false ≡ true → b ≡ false
lone-cases zero u b e = absurd (false≢true e)
lone-cases (suc zero) true true e = absurd (false≢true e)
lone-cases (suc zero) true false e = refl
lone-cases (suc zero) false b e = absurd (false≢true e)
lone-cases (suc (suc zero)) u b e = absurd (false≢true e)
lone-cases (suc (suc (suc n))) u b e = absurd (false≢true e)

module _ (S : Scene) where
  pub new-fluid : (c : ℕ) → new_flag S c ≡ 2 → ((S.old.flag c ≡ 2) × (beside_emptied S c ≡ false)) ⊎ ((S.old.flag c ≡ 1) × (filled S c ≡ true))
  unfolding new_flag
  new-fluid c e = fluid-cases (S.old.flag c) (beside_filled S c) (filled S c) (emptied S c) (beside_emptied S c) e

  pub new-empty : (c : ℕ) → new_flag S c ≡ 0 → ((S.old.flag c ≡ 0) × (beside_filled S c ≡ false)) ⊎ (emptied S c ≡ true)
  unfolding new_flag
  new-empty c e = empty-cases (S.old.flag c) (beside_filled S c) (filled S c) (emptied S c) (beside_emptied S c) e

  pub emptied-lone : (c : ℕ) → emptied S c ≡ true → beside_filled S c ≡ false
  unfolding emptied
  emptied-lone c e = lone-cases (S.old.flag c) (under (traded_mass S c) (streamed_density S c)) (beside_filled S c) e

  beside-filled : (c i : ℕ) → Dir S.lat.q i → filled S (S.grid.near c i) ≡ true → beside_filled S c ≡ true
  unfolding beside_filled
  beside-filled c i d e = any-dir S.lat.q (λ k. filled S (S.grid.near c k)) i d e

  beside-emptied : (c i : ℕ) → Dir S.lat.q i → emptied S (S.grid.near c i) ≡ true → beside_emptied S c ≡ true
  unfolding beside_emptied
  beside-emptied c i d e = any-dir S.lat.q (λ k. emptied S (S.grid.near c k)) i d e

  closed-layer : Paired S.lat → Laid S.lat S.grid → Walled S.grid S.old.flag
      → Closed S.lat.q S.grid S.old.flag → Closed S.lat.q S.grid (new_flag S)
  closed-layer p l w old c i h some most ef ee = go (new-fluid c ef) (new-empty (S.grid.near c i) ee)
    where
      d : Dir S.lat.q i
      d = record { some = some; most = most }

      -- c is filled, so the neighbour is beside a filled cell
      seen : S.old.flag c ≡ 1 → filled S c ≡ true → beside_filled S (S.grid.near c i) ≡ true
      seen f1 fi =
          beside-filled (S.grid.near c i) (S.lat.opp i) (p.dir i d)
          (subst (λ (k : ℕ). filled S k ≡ true) (sym (l.back c i h (inner S.grid S.old.flag w c h (λ f3. absurd (omega arith))) d)) fi)

      go : ((S.old.flag c ≡ 2) × (beside_emptied S c ≡ false)) ⊎ ((S.old.flag c ≡ 1) × (filled S c ≡ true))
          → ((S.old.flag (S.grid.near c i) ≡ 0) × (beside_filled S (S.grid.near c i) ≡ false)) ⊎ (emptied S (S.grid.near c i) ≡ true) → ⊥
      go (inl a) (inl b) = old c i h some most a.0 b.0
      go (inl a) (inr e) = false≢true (sym a.1 ∙ beside-emptied c i d e)
      go (inr a) (inl b) = false≢true (sym b.1 ∙ seen a.0 a.1)
      go (inr a) (inr e) = false≢true (sym (emptied-lone (S.grid.near c i) e) ∙ seen a.0 a.1)

pub closed-holds : Claim
closed-holds S p l w old = closed-layer S p l w old

-- ---- the new flags are flags, and a wall stays a wall
below-four : (f : ℕ) (bf fi em be : Bool) → flag_after f bf fi em be < 4
below-four zero true fi em be = omega arith
below-four zero false fi em be = omega arith
below-four (suc zero) bf true em be = omega arith
below-four (suc zero) bf false true be = omega arith
below-four (suc zero) bf false false be = omega arith
below-four (suc (suc zero)) bf fi em true = omega arith
below-four (suc (suc zero)) bf fi em false = omega arith
below-four (suc (suc (suc n))) bf fi em be = omega arith

pub flags-hold : (S : Scene) (c : ℕ) → new_flag S c < 4
unfolding new_flag
flags-hold S c = below-four (S.old.flag c) (beside_filled S c) (filled S c) (emptied S c) (beside_emptied S c)

pub wall-stays : (S : Scene) (c : ℕ) → S.old.flag c ≡ 3 → new_flag S c ≡ 3
unfolding new_flag
wall-stays S c e = rw e refl

pub outer-stays : (S : Scene) → Walled S.grid S.old.flag → Walled S.grid (new_flag S)
outer-stays S w c h o = wall-stays S c (w c h o)
