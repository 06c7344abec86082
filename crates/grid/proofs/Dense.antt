-- Dense: after an accepted stage 3 no density can break. A cell that stays liquid keeps its ρ', which its collided parts add up to; a new interface cell
-- begins with the floor of a mean of such ρ', and a mean lies where its terms lie. Assumes nothing.
use mathlib.Core.Path.{◌≡◌, refl, sym, ap, ◌∙◌, subst}
use mathlib.Core.Bool.{Bool, true, false, cond, false≢true}
use Prim.Native.Nat.{ℕ, zero, suc, ◌*◌, ◌≤◌, ◌<◌}
use native.Mathlib.Omega.{arith}
use lib.IntN.{ℤ, pos, negsuc, nat_abs}
use lib.Signed.{◌≤ℤ◌, le_z}
use Rattle.whole.specs.laws.Bools.{and-true, cond_yes}
use Rattle.whole.specs.Fold.{count}
use Rattle.whole.specs.laws.Machine.{Within}
use Rattle.whole.specs.laws.Order.{≤-le_z}
use Rattle.whole.specs.laws.Parts.{≤-parts, parts-≤}
use Rattle.whole.specs.laws.Search.{as-dir, any_where}
use Rattle.lattice.specs.Lattice.{density}
use Rattle.lattice.specs.Cell.{dense, over}
use Rattle.lattice.proofs.Tame.{dense-low, dense-in}
use Rattle.grid.specs.State.{Scene, by_flag, liquid}
use Rattle.grid.specs.Step.{traded_mass, streamed_density, collided, filled, emptied, beside_filled, beside_emptied, new_flag, flag_after, liquid_near, near_sum, born_density, born, new_part}
use Rattle.grid.specs.Demands.{Walled}
use Rattle.grid.proofs.Accurate.{stays}
use Rattle.grid.proofs.Laid.{Laid, inner}
use Rattle.grid.proofs.Moved.{density-collided, density-born}
use Rattle.grid.proofs.Picked.{picked, picked-abs, picked_low, count-some, floor-low, floor-abs}
use Rattle.grid.proofs.Same.{density-same}

-- stage 3 has passed: every liquid cell's ρ' is in its range
abbrev pub Passed : Scene → Type 0
Passed S = (c : ℕ) → c < S.grid.cells → liquid (S.old.flag c) ≡ true → dense (streamed_density S c) ≡ true

abbrev pub Claim : Type 0
Claim =
    (S : Scene) → Laid S.lat S.grid → Walled S.grid S.old.flag → Passed S
    → (c : ℕ) → c < S.grid.cells → liquid (new_flag S c) ≡ true → dense (density S.lat (new_part S c)) ≡ true

-- ---- a new interface cell was empty, beside a filled cell, which was liquid
pub newborn-cases : (f : ℕ) (bf fi em be : Bool) → liquid f ≡ false → liquid (flag_after f bf fi em be) ≡ true → (f ≡ 0) × (flag_after f bf fi em be ≡ 1)
newborn-cases zero true fi em be d l = (refl, refl)
newborn-cases zero false fi em be d l = absurd (false≢true l)
newborn-cases (suc zero) bf fi em be d l = absurd (false≢true (sym d))
newborn-cases (suc (suc zero)) bf fi em be d l = absurd (false≢true (sym d))
newborn-cases (suc (suc (suc n))) bf fi em be d l = absurd (false≢true l)

beside-true : (f : ℕ) (bf fi em be : Bool) → f ≡ 0 → flag_after f bf fi em be ≡ 1 → bf ≡ true
beside-true f bf fi em be z e = go bf (subst (λ (k : ℕ). flag_after k bf fi em be ≡ 1) z e)
  where
    go : (b : Bool) → ◌≡◌ {A = ℕ} (cond b 1 0) 1 → b ≡ true
    go true t = refl
    go false t = absurd (omega arith)

pub filled-wet : (f : ℕ) (o : Bool) → by_flag f false o false false ≡ true → liquid f ≡ true
filled-wet zero o e = absurd (false≢true e)
filled-wet (suc zero) o e = refl
filled-wet (suc (suc zero)) o e = absurd (false≢true e)
filled-wet (suc (suc (suc n))) o e = absurd (false≢true e)

module _ (S : Scene) (c : ℕ) (z : S.old.flag c ≡ 0) (n : new_flag S c ≡ 1) where
  beside : beside_filled S c ≡ true
  unfolding new_flag
  beside = beside-true (S.old.flag c) (beside_filled S c) (filled S c) (emptied S c) (beside_emptied S c) z n

  -- so it has a neighbour that was liquid
  pub has-liquid : 0 < liquid_near S c
  unfolding beside_filled filled liquid_near
  has-liquid =
      let f = any_where S.lat.q (λ a. filled S (S.grid.near c (suc a))) beside in
      let d = S.grid.near c (suc f.0) in
      count-some S.lat.q (λ a. liquid (S.old.flag (S.grid.near c (suc a)))) f.0 f.1
      (filled-wet (S.old.flag d) (over (traded_mass S d) (streamed_density S d)) f.2)

  pub born-part : (k : ℕ) → new_part S c k ≡ born S c k
  unfolding new_part
  born-part k =
      ap (λ (f : ℕ). by_flag f (cond (beside_filled S c) (born S c k) (pos 0)) (cond (emptied S c) (pos 0) (collided S c k)) (collided S c k) (pos 0)) z
      ∙ cond_yes (born S c k) (pos 0) beside

-- ---- the mean
dense-by : (ρ : ℤ) → pos 294912 ≤ℤ ρ → Within ρ 1179648 → dense ρ ≡ true
unfolding dense
dense-by (pos r) l h =
    let m : pos r ≤ℤ pos 1179648 = parts-≤ (omega (arith, h.abs)) in
    and-true (le_z (pos 294912) (pos r)) (le_z (pos r) (pos 1179648)) (≤-le_z l) (≤-le_z m)
dense-by (negsuc r) l h = absurd (omega (arith, ≤-parts l))

module _ (S : Scene) (laid : Laid S.lat S.grid) (w : Walled S.grid S.old.flag) (t : Passed S) (c : ℕ) (h : c < S.grid.cells) where
  module _ (z : S.old.flag c ≡ 0) where
    -- the neighbour in direction a + 1: whether it was liquid, and its ρ'
    abbrev wet : ℕ → Bool
    wet a = liquid (S.old.flag (S.grid.near c (suc a)))

    abbrev rho : ℕ → ℤ
    rho a = streamed_density S (S.grid.near c (suc a))

    rho-dense : (a : ℕ) → a < S.lat.q → wet a ≡ true → dense (rho a) ≡ true
    rho-dense a k e = t (S.grid.near c (suc a)) (laid.cell c (suc a) h (inner S.grid S.old.flag w c h (λ e. absurd (omega arith))) (as-dir k)) e

    low : pos (count S.lat.q wet * 294912) ≤ℤ picked wet rho S.lat.q
    low = picked_low wet rho 294912 S.lat.q (λ a k e. dense-low (rho a) (rho-dense a k e))

    high : nat_abs (picked wet rho S.lat.q) ≤ count S.lat.q wet * 1179648
    high = picked-abs wet rho 1179648 S.lat.q (λ a k e. (dense-in (rho a) (rho-dense a k e)).abs)

    mean-dense : 0 < liquid_near S c → dense (born_density S c) ≡ true
    unfolding born_density near_sum liquid_near picked
    mean-dense k =
        dense-by (born_density S c) (floor-low (picked wet rho S.lat.q) (count S.lat.q wet) 294912 k low)
        (floor-abs (picked wet rho S.lat.q) (count S.lat.q wet) (count S.lat.q wet * 294912) 1179648 low high)

  new-dense : liquid (new_flag S c) ≡ true → dense (density S.lat (new_part S c)) ≡ true
  unfolding new_flag
  new-dense l = go (liquid (S.old.flag c)) refl
    where
      go : (b : Bool) → liquid (S.old.flag c) ≡ b → dense (density S.lat (new_part S c)) ≡ true
      go true o =
          ap dense (density-same S.lat (new_part S c) (collided S c) (λ k m. stays S c k (t c h o) o l) ∙ density-collided S c) ∙ t c h o
      go false d =
          let n = newborn-cases (S.old.flag c) (beside_filled S c) (filled S c) (emptied S c) (beside_emptied S c) d l in
          ap dense (density-same S.lat (new_part S c) (born S c) (λ k m. born-part S c n.0 n.1 k) ∙ density-born S c)
          ∙ mean-dense n.0 (has-liquid S c n.0 n.1)

pub dense-holds : Claim
dense-holds S laid w t c h l = new-dense S laid w t c h l
