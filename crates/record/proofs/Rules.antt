-- What test 6's rules give of a cell, over any lattice: a liquid cell's parts and density in their ranges, an interface cell's mass, the fill, and nothing
-- in a cell that is not liquid. Assumes nothing.
use mathlib.Core.Path.{◌≡◌, refl, sym, ap, ◌∙◌, subst}
use mathlib.Core.Bool.{Bool, true, false, not, cond, ◌&&◌}
use Prim.Native.Nat.{ℕ, suc, ◌≤◌}
use native.Mathlib.Omega.{arith}
use lib.Dec.{eqb}
use lib.IntN.{ℤ, pos, nat_abs}
use borrow.Author.Tests.{leb-true, eqb-true, eq-eqb, not-false}
use Rattle.whole.specs.laws.Bools.{and_left, and_right}
use Rattle.whole.specs.Fold.{all}
use Rattle.whole.specs.laws.Machine.{Within}
use Rattle.whole.specs.laws.Search.{all-at, first-none}
use Rattle.lattice.specs.Lattice.{Lattice, dot, density, momentum}
use Rattle.lattice.specs.Cell.{part_good, mass_good, carry_good, dense, slow}
use Rattle.lattice.specs.Body.{eq_z, body_good}
use Rattle.lattice.proofs.Equal.{eq_z-true}
use Rattle.grid.specs.State.{State, by_flag, liquid}
use Rattle.grid.specs.Step.{fill_for}
use Rattle.grid.specs.Good.{dry_good, interface_good, fluid_good, fill_good, cell_good, bad_rule}
use Rattle.record.proofs.Standing.{dry-kinds}
use Rattle.grid.proofs.Prepared.{liquid-body}

module _ (L : Lattice) (n : ℕ) (t : State) where
  -- ---- one cell
  module _ (c : ℕ) (good : cell_good L t c ≡ true) where
    abbrev D : Bool
    D = dry_good L t c

    kinds : by_flag (t.flag c) D (interface_good L t c) (fluid_good L t c) D ≡ true
    unfolding cell_good
    kinds = and_left (by_flag (t.flag c) D (interface_good L t c) (fluid_good L t c) D) (fill_good L t c) good

    body : liquid (t.flag c) ≡ true → body_good L (t.part c) ≡ true
    unfolding interface_good fluid_good
    body l = liquid-body (t.flag c) D (body_good L (t.part c)) (mass_good (t.mass c)) (eq_z (t.mass c) (density L (t.part c))) l kinds

    abbrev A : Bool
    A = all (suc L.q) (λ k. part_good (t.part c k))

    abbrev ρ : ℤ
    ρ = density L (t.part c)

    pub part_small : liquid (t.flag c) ≡ true → (k : ℕ) → k ≤ L.q → Within (t.part c k) 1179648
    unfolding body_good
    part_small l k h =
        let j = momentum L (t.part c) in
        record { abs = leb-true (nat_abs (t.part c k)) 1179648 (all-at (suc L.q) (λ k. part_good (t.part c k)) (and_left A (dense ρ) (and_left (A && dense ρ) (slow ρ (dot j j)) (body l))) k (omega arith)) }

    pub is-dense : liquid (t.flag c) ≡ true → dense (density L (t.part c)) ≡ true
    unfolding body_good
    is-dense l = let j = momentum L (t.part c) in and_right A (dense ρ) (and_left (A && dense ρ) (slow ρ (dot j j)) (body l))

    pub mass-small : t.flag c ≡ 1 → Within (t.mass c) 2359296
    unfolding interface_good fluid_good
    mass-small e =
        let B = body_good L (t.part c) in
        let M = mass_good (t.mass c) in
        record { abs = leb-true (nat_abs (t.mass c)) 2359296 (and_right B M (subst (λ (k : ℕ). by_flag k D (B && M) (B && eq_z (t.mass c) ρ) D ≡ true) e kinds)) }

    pub fill-so : t.fill c ≡ fill_for (t.flag c) (t.mass c) (density L (t.part c))
    unfolding cell_good fill_good
    fill-so =
        eqb-true (t.fill c) (fill_for (t.flag c) (t.mass c) ρ)
        (and_right (by_flag (t.flag c) D (interface_good L t c) (fluid_good L t c) D) (fill_good L t c) good)

    pub dry-part : liquid (t.flag c) ≡ false → (k : ℕ) → k ≤ L.q → t.part c k ≡ pos 0
    unfolding dry_good
    dry-part e k h =
        let Z = all (suc L.q) (λ j. eq_z (t.part c j) (pos 0)) in
        eq_z-true (t.part c k) (pos 0)
        (all-at (suc L.q) (λ j. eq_z (t.part c j) (pos 0)) (and_right (eq_z (t.mass c) (pos 0)) Z (dry-kinds (t.flag c) D (interface_good L t c) (fluid_good L t c) e kinds)) k (omega arith))

  -- ---- the carry
  pub carry-fair : suc n ≤ bad_rule L n t → carry_good t.carry ≡ true
  unfolding bad_rule
  carry-fair h =
      not-false (carry_good t.carry)
      (sym (ap (λ (b : Bool). cond b (not (carry_good t.carry)) (not (cell_good L t n))) (eq-eqb n n refl))
      ∙ first-none (suc n) (λ c. cond (eqb c n) (not (carry_good t.carry)) (not (cell_good L t c))) h n (omega arith))
