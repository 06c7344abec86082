-- When test 8 cannot refuse: a liquid cell's parts and speed, an interface mass, and the carry are all that the next state can break after an accepted
-- stage 3. Density, fluid mass, fill, and what is dry, are right by themselves. Assumes nothing.
use mathlib.Core.Path.{◌≡◌, refl, sym, ap, ap₂, ◌∙◌}
use mathlib.Core.Bool.{Bool, true, false, ◌&&◌, ◌||◌, not, cond, false≢true}
use Prim.Native.Nat.{ℕ, zero, suc, ◌+◌, ◌≤◌, ◌<◌}
use native.Mathlib.Decide.{ℕ_discrete}
use native.Mathlib.Nat.{le_of_eq, le_of_suc-le-suc}
use native.Mathlib.Omega.{arith}
use lib.Arith.{lt_of_le-ne}
use lib.IntN.{ℤ, pos, negsuc, ◌+ℤ◌, +ℤ_idr}
use lib.Dec.{eqb}
use borrow.Author.Tests.{eq-eqb, ne_eqb}
use Rattle.whole.specs.laws.Bools.{and-true}
use Rattle.whole.specs.Fold.{all}
use Rattle.whole.specs.laws.Search.{first-all}
use Rattle.lattice.specs.Lattice.{dot, density, momentum}
use Rattle.lattice.specs.Cell.{part_good, mass_good, carry_good, dense, slow}
use Rattle.grid.specs.State.{Scene, by_flag, liquid}
use Rattle.grid.specs.Step.{traded_mass, streamed_density, collided, filled, emptied, beside_filled, beside_emptied, new_flag, flag_after, base_mass, born, new_part, received, new_mass, new_carry, fill_for, new_fill, next}
use Rattle.grid.specs.Good.{dry_good, interface_good, fluid_good, fill_good, cell_good, bad_rule}
use Rattle.grid.specs.Demands.{Walled}
use Rattle.lattice.specs.Body.{body_good, eq_z}
use Rattle.grid.proofs.Accurate.{stays}
use Rattle.grid.proofs.Dense.{Passed, dense-holds}
use Rattle.grid.proofs.Laid.{Laid}
use Rattle.grid.proofs.Moved.{density-collided}
use Rattle.grid.proofs.Same.{density-same}

-- what is asked of the next state
pub record Fair (S : Scene) : Type 0 where
  pub parts : (c : ℕ) → c < S.grid.cells → liquid (new_flag S c) ≡ true → all (suc S.lat.q) (λ k. part_good (new_part S c k)) ≡ true
  pub speeds : (c : ℕ) → c < S.grid.cells → liquid (new_flag S c) ≡ true
      → slow (density S.lat (new_part S c)) (dot (momentum S.lat (new_part S c)) (momentum S.lat (new_part S c))) ≡ true
  pub masses : (c : ℕ) → c < S.grid.cells → new_flag S c ≡ 1 → mass_good (new_mass S c) ≡ true
  pub carry : carry_good (new_carry S) ≡ true

abbrev pub Claim : Type 0
Claim =
    (S : Scene) → Laid S.lat S.grid → Walled S.grid S.old.flag → Passed S → Fair S
    → suc S.grid.cells ≤ bad_rule S.lat S.grid.cells (next S)

-- ---- by cases on the old flag and the tests alone

eq_z-refl : (z : ℤ) → eq_z z z ≡ true
eq_z-refl (pos n) = eq-eqb n n refl
eq_z-refl (negsuc n) = eq-eqb n n refl

all_true : (n : ℕ) (f : ℕ → Bool) → ((k : ℕ) → k < n → f k ≡ true) → all n f ≡ true
unfolding all
all_true zero f h = refl
all_true (suc n) f h = and-true (all n f) (f n) (all_true n f (λ k l. h k (omega arith))) (h n (omega arith))

-- a cell that is dry afterwards has no parts and no mass
dry-part : (f : ℕ) (bf fi em be : Bool) (b x : ℤ) → liquid (flag_after f bf fi em be) ≡ false → by_flag f (cond bf b (pos 0)) (cond em (pos 0) x) x (pos 0) ≡ pos 0
dry-part zero true fi em be b x e = absurd (false≢true (sym e))
dry-part zero false fi em be b x e = refl
dry-part (suc zero) bf true em be b x e = absurd (false≢true (sym e))
dry-part (suc zero) bf false true be b x e = refl
dry-part (suc zero) bf false false be b x e = absurd (false≢true (sym e))
dry-part (suc (suc zero)) bf fi em true b x e = absurd (false≢true (sym e))
dry-part (suc (suc zero)) bf fi em false b x e = absurd (false≢true (sym e))
dry-part (suc (suc (suc n))) bf fi em be b x e = refl

dry-mass : (f : ℕ) (bf fi em be : Bool) (m ρ : ℤ) → liquid (flag_after f bf fi em be) ≡ false → by_flag f (pos 0) (cond fi ρ (cond em (pos 0) m)) ρ (pos 0) ≡ pos 0
dry-mass zero bf fi em be m ρ e = refl
dry-mass (suc zero) bf true em be m ρ e = absurd (false≢true (sym e))
dry-mass (suc zero) bf false true be m ρ e = refl
dry-mass (suc zero) bf false false be m ρ e = absurd (false≢true (sym e))
dry-mass (suc (suc zero)) bf fi em true m ρ e = absurd (false≢true (sym e))
dry-mass (suc (suc zero)) bf fi em false m ρ e = absurd (false≢true (sym e))
dry-mass (suc (suc (suc n))) bf fi em be m ρ e = refl

-- a cell that is fluid afterwards was liquid, and has its density for mass
fluid-was : (f : ℕ) (bf fi em be : Bool) → flag_after f bf fi em be ≡ 2 → liquid f ≡ true
fluid-was zero true fi em be e = absurd (omega arith)
fluid-was zero false fi em be e = absurd (omega arith)
fluid-was (suc zero) bf fi em be e = refl
fluid-was (suc (suc zero)) bf fi em be e = refl
fluid-was (suc (suc (suc n))) bf fi em be e = absurd (omega arith)

fluid-mass : (f : ℕ) (bf fi em be : Bool) (m ρ : ℤ) → flag_after f bf fi em be ≡ 2 → by_flag f (pos 0) (cond fi ρ (cond em (pos 0) m)) ρ (pos 0) ≡ ρ
fluid-mass zero true fi em be m ρ e = absurd (omega arith)
fluid-mass zero false fi em be m ρ e = absurd (omega arith)
fluid-mass (suc zero) bf true em be m ρ e = refl
fluid-mass (suc zero) bf false true be m ρ e = absurd (omega arith)
fluid-mass (suc zero) bf false false be m ρ e = absurd (omega arith)
fluid-mass (suc (suc zero)) bf fi em be m ρ e = refl
fluid-mass (suc (suc (suc n))) bf fi em be m ρ e = absurd (omega arith)

kind-true : (f : ℕ) (dry interface fluid : Bool) → (liquid f ≡ false → dry ≡ true) → (f ≡ 1 → interface ≡ true) → (f ≡ 2 → fluid ≡ true) → by_flag f dry interface fluid dry ≡ true
kind-true zero dry interface fluid u v w = u refl
kind-true (suc zero) dry interface fluid u v w = v refl
kind-true (suc (suc zero)) dry interface fluid u v w = w refl
kind-true (suc (suc (suc n))) dry interface fluid u v w = u refl

not-interface : (f : ℕ) → liquid f ≡ false → eqb f 1 ≡ false
not-interface f e = ne_eqb f 1 (λ k. false≢true (sym e ∙ ap liquid k))

module _ (S : Scene) (laid : Laid S.lat S.grid) (w : Walled S.grid S.old.flag) (t : Passed S) (fair : Fair S) where
  body : (c : ℕ) → c < S.grid.cells → liquid (new_flag S c) ≡ true → body_good S.lat (new_part S c) ≡ true
  unfolding body_good
  body c h l =
      let f = new_part S c in
      let ρ = density S.lat f in
      and-true (all (suc S.lat.q) (λ k. part_good (f k)) && dense ρ) (slow ρ (dot (momentum S.lat f) (momentum S.lat f)))
      (and-true (all (suc S.lat.q) (λ k. part_good (f k))) (dense ρ) (fair.parts c h l) (dense-holds S laid w t c h l)) (fair.speeds c h l)

  no-gifts : (c : ℕ) → eqb (new_flag S c) 1 ≡ false → new_mass S c ≡ base_mass S c
  unfolding new_mass
  no-gifts c e = ap (λ (b : Bool). base_mass S c +ℤ cond b (received S c) (pos 0)) e ∙ +ℤ_idr (base_mass S c)

  dry : (c : ℕ) → c < S.grid.cells → liquid (new_flag S c) ≡ false → dry_good S.lat (next S) c ≡ true
  unfolding dry_good next new_part new_flag base_mass
  dry c h e =
      and-true (eq_z (new_mass S c) (pos 0)) (all (suc S.lat.q) (λ k. eq_z (new_part S c k) (pos 0)))
      (ap (λ (z : ℤ). eq_z z (pos 0)) (no-gifts c (not-interface (new_flag S c) e)
      ∙ dry-mass (S.old.flag c) (beside_filled S c) (filled S c) (emptied S c) (beside_emptied S c) (traded_mass S c) (streamed_density S c) e))
      (all_true (suc S.lat.q) (λ k. eq_z (new_part S c k) (pos 0))
      (λ k l. ap (λ (z : ℤ). eq_z z (pos 0)) (dry-part (S.old.flag c) (beside_filled S c) (filled S c) (emptied S c) (beside_emptied S c) (born S c k) (collided S c k) e)))

  interface : (c : ℕ) → c < S.grid.cells → new_flag S c ≡ 1 → interface_good S.lat (next S) c ≡ true
  unfolding interface_good next
  interface c h e = and-true (body_good S.lat (new_part S c)) (mass_good (new_mass S c)) (body c h (ap liquid e)) (fair.masses c h e)

  fluid : (c : ℕ) → c < S.grid.cells → new_flag S c ≡ 2 → fluid_good S.lat (next S) c ≡ true
  unfolding fluid_good next new_flag base_mass
  fluid c h e =
      and-true (body_good S.lat (new_part S c)) (eq_z (new_mass S c) (density S.lat (new_part S c))) (body c h (ap liquid e))
      (ap₂ eq_z mass-is (density-is ∙ density-collided S c) ∙ eq_z-refl (streamed_density S c))
    where
      was : liquid (S.old.flag c) ≡ true
      was = fluid-was (S.old.flag c) (beside_filled S c) (filled S c) (emptied S c) (beside_emptied S c) e

      mass-is : new_mass S c ≡ streamed_density S c
      mass-is =
          no-gifts c (ne_eqb (new_flag S c) 1 (λ k. absurd (omega arith)))
          ∙ fluid-mass (S.old.flag c) (beside_filled S c) (filled S c) (emptied S c) (beside_emptied S c) (traded_mass S c) (streamed_density S c) e

      density-is : density S.lat (new_part S c) ≡ density S.lat (collided S c)
      density-is = density-same S.lat (new_part S c) (collided S c) (λ k l. stays S c k (t c h was) was (ap liquid e))

  cell : (c : ℕ) → c < S.grid.cells → cell_good S.lat (next S) c ≡ true
  unfolding cell_good fill_good next new_fill
  cell c h =
      and-true (by_flag (new_flag S c) (dry_good S.lat (next S) c) (interface_good S.lat (next S) c) (fluid_good S.lat (next S) c) (dry_good S.lat (next S) c))
      (eqb (new_fill S c) (fill_for (new_flag S c) (new_mass S c) (density S.lat (new_part S c))))
      (kind-true (new_flag S c) (dry_good S.lat (next S) c) (interface_good S.lat (next S) c) (fluid_good S.lat (next S) c) (dry c h) (interface c h) (fluid c h))
      (eq-eqb (new_fill S c) (fill_for (new_flag S c) (new_mass S c) (density S.lat (new_part S c))) refl)

pub fair-holds : Claim
unfolding bad_rule next
fair-holds S laid w t fair =
    le_of_eq (sym (first-all (suc S.grid.cells) test (λ c h. at c h (ℕ_discrete c S.grid.cells))))
  where
    test : ℕ → Bool
    test c = cond (eqb c S.grid.cells) (not (carry_good (next S).carry)) (not (cell_good S.lat (next S) c))

    at : (c : ℕ) → c < suc S.grid.cells → Dec (c ≡ S.grid.cells) → test c ≡ false
    at c h (yes e) = ap (λ (b : Bool). cond b (not (carry_good (new_carry S))) (not (cell_good S.lat (next S) c))) (eq-eqb c S.grid.cells e) ∙ ap not fair.carry
    at c h (no n) =
        ap (λ (b : Bool). cond b (not (carry_good (new_carry S))) (not (cell_good S.lat (next S) c))) (ne_eqb c S.grid.cells n)
        ∙ ap not (cell S laid w t fair c (lt_of_le-ne (le_of_suc-le-suc h) n))
