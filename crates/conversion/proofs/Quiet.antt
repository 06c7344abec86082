-- A step that converts nothing: flags stay, parts and masses are those of stages 1 to 4, and the carry stays. Assumes nothing.
use mathlib.Core.Path.{◌≡◌, refl, sym, ap, ap₂, ◌∙◌}
use mathlib.Core.Bool.{Bool, true, false, ◌&&◌, ◌||◌, not, cond, false≢true}
use Prim.Native.Nat.{ℕ, zero, suc, ◌+◌, ◌≤◌, ◌<◌}
use native.Mathlib.Decide.{ℕ_discrete}
use native.Mathlib.Omega.{arith}
use lib.IntN.{ℤ, pos, ◌+ℤ◌, +ℤ_idr}
use lib.Dec.{eqb}
use borrow.Author.Tests.{eqb-true}
use Rattle.whole.specs.laws.Bools.{never}
use Rattle.whole.specs.Fold.{Dir}
use Rattle.whole.specs.laws.Search.{as-dir, any_where}
use Rattle.whole.specs.laws.Sums.{sum-zero}
use Rattle.lattice.specs.Cell.{over, under}
use Rattle.grid.specs.State.{Scene, by_flag}
use Rattle.grid.specs.Step.{traded_mass, streamed_density, collided, filled, emptied, beside_filled, beside_emptied, beside, new_flag, flag_after, base_mass, born, new_part, gift, to_carry, received, new_mass, new_carry}
use Rattle.grid.specs.inner.Between.{moved_part, moved_mass, first_mark}
use Rattle.grid.specs.Demands.{Walled}
use Rattle.grid.proofs.Laid.{Laid, inner}
use Rattle.grid.proofs.Closed.{wall-stays}

-- no mark: neither filled nor emptied
mark-none : (f : ℕ) (o u n : Bool) → ◌≡◌ {A = ℕ} (by_flag f 0 (cond o 1 (cond u 2 0)) 0 0) 0 → (by_flag f false o false false ≡ false) × (by_flag f false (u && n) false false ≡ false)
mark-none zero o u n e = (refl, refl)
mark-none (suc zero) true u n e = absurd (omega arith)
mark-none (suc zero) false true n e = absurd (omega arith)
mark-none (suc zero) false false n e = (refl, refl)
mark-none (suc (suc zero)) o u n e = (refl, refl)
mark-none (suc (suc (suc r))) o u n e = (refl, refl)

flag_same : (f : ℕ) (bf fi em be : Bool) → f < 4 → bf ≡ false → fi ≡ false → em ≡ false → be ≡ false → flag_after f bf fi em be ≡ f
flag_same zero bf fi em be h a b c d = rw a refl
flag_same (suc zero) bf fi em be h a b c d = rw (b, c) refl
flag_same (suc (suc zero)) bf fi em be h a b c d = rw d refl
flag_same (suc (suc (suc zero))) bf fi em be h a b c d = refl
flag_same (suc (suc (suc (suc r)))) bf fi em be h a b c d = absurd (omega arith)

part_same : (f : ℕ) (bf em : Bool) (b x : ℤ) → bf ≡ false → em ≡ false → by_flag f (cond bf b (pos 0)) (cond em (pos 0) x) x (pos 0) ≡ by_flag f (pos 0) x x (pos 0)
part_same f bf em b x u v = rw (u, v) refl

mass-same : (f : ℕ) (fi em : Bool) (m ρ : ℤ) → fi ≡ false → em ≡ false → by_flag f (pos 0) (cond fi ρ (cond em (pos 0) m)) ρ (pos 0) ≡ by_flag f (pos 0) m ρ (pos 0)
mass-same f fi em m ρ u v = rw (u, v) refl

module _ (S : Scene) (l : Laid S.lat S.grid) (w : Walled S.grid S.old.flag) (fl : (c : ℕ) → c < S.grid.cells → S.old.flag c < 4)
    (quiet : (c : ℕ) → c < S.grid.cells → first_mark S c ≡ 0) where
  neither : (c : ℕ) → c < S.grid.cells → (filled S c ≡ false) × (emptied S c ≡ false)
  unfolding first_mark filled emptied
  neither c h =
      mark-none (S.old.flag c) (over (traded_mass S c) (streamed_density S c)) (under (traded_mass S c) (streamed_density S c)) (not (beside_filled S c)) (quiet c h)

  none_beside : (test : ℕ → Bool) → ((d : ℕ) → d < S.grid.cells → test d ≡ false) → (c : ℕ) → c < S.grid.cells → (S.old.flag c ≡ 3 → ⊥) → beside S test c ≡ false
  none_beside test off c h n = never (beside S test c) (λ t.
      let w = any_where S.lat.q (λ a. test (S.grid.near c (suc a))) t in
      let k : w.0 < S.lat.q = w.1 in
      false≢true (sym (off (S.grid.near c (suc w.0)) (near-cell (suc w.0) (as-dir k))) ∙ w.2))
    where
      near-cell : (i : ℕ) → Dir S.lat.q i → S.grid.near c i < S.grid.cells
      near-cell i d = l.cell c i h (inner S.grid S.old.flag w c h n) d

  pub flags-stay : (c : ℕ) → c < S.grid.cells → new_flag S c ≡ S.old.flag c
  unfolding new_flag beside_filled beside_emptied
  flags-stay c h = go (ℕ_discrete (S.old.flag c) 3)
    where
      go : Dec (S.old.flag c ≡ 3) → new_flag S c ≡ S.old.flag c
      go (yes e) = wall-stays S c e ∙ sym e
      go (no n) =
          flag_same (S.old.flag c) (beside_filled S c) (filled S c) (emptied S c) (beside_emptied S c) (fl c h)
          (none_beside (filled S) (λ d k. (neither d k).0) c h n) (neither c h).0 (neither c h).1 (none_beside (emptied S) (λ d k. (neither d k).1) c h n)

  pub parts_stay : (c k : ℕ) → c < S.grid.cells → new_part S c k ≡ moved_part S c k
  unfolding new_part moved_part beside_filled
  parts_stay c k h = go (ℕ_discrete (S.old.flag c) 3)
    where
      go : Dec (S.old.flag c ≡ 3) → new_part S c k ≡ moved_part S c k
      go (yes e) = rw e refl
      go (no n) =
          part_same (S.old.flag c) (beside_filled S c) (emptied S c) (born S c k) (collided S c k) (none_beside (filled S) (λ d k. (neither d k).0) c h n) (neither c h).1

  no-gift : (d k : ℕ) → d < S.grid.cells → gift S d k ≡ pos 0
  unfolding gift
  no-gift d k h = rw ((neither d h).0, (neither d h).1) refl

  pub masses-stay : (c : ℕ) → c < S.grid.cells → new_mass S c ≡ moved_mass S c
  unfolding new_mass base_mass moved_mass received
  masses-stay c h =
      ap₂ (λ (x y : ℤ). x +ℤ y) (mass-same (S.old.flag c) (filled S c) (emptied S c) (traded_mass S c) (streamed_density S c) (neither c h).0 (neither c h).1) (none (eqb (new_flag S c) 1) refl)
      ∙ +ℤ_idr (moved_mass S c)
    where
      none : (b : Bool) → eqb (new_flag S c) 1 ≡ b → cond b (received S c) (pos 0) ≡ pos 0
      none false e = refl
      none true e =
          sum-zero S.lat.q (λ a. gift S (S.grid.near c (suc a)) (S.lat.opp (suc a))) (λ a k. no-gift (S.grid.near c (suc a)) (S.lat.opp (suc a)) (l.cell c (suc a) h within (as-dir k)))
        where
          one : S.old.flag c ≡ 1
          one = sym (flags-stay c h) ∙ eqb-true (new_flag S c) 1 e

          within : S.grid.outer c ≡ false
          within = inner S.grid S.old.flag w c h (λ z. absurd (omega (arith, one)))

  pub carry-stays : new_carry S ≡ S.old.carry
  unfolding new_carry to_carry
  carry-stays =
      ap (λ (z : ℤ). S.old.carry +ℤ z) (sum-zero S.grid.cells (to_carry S) (λ c h. rw ((neither c h).0, (neither c h).1) refl)) ∙ +ℤ_idr S.old.carry
