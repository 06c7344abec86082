-- Test 6's place: the lowest cell that breaks a rule, N for the carry alone, N + 1 if nothing is broken. Assumes nothing.
use mathlib.Core.Path.{◌≡◌, refl, sym, ap, ◌∙◌}
use mathlib.Core.Bool.{Bool, true, false, not, cond, ◌&&◌, false≢true}
use mathlib.Core.List.{List, [], ◌∷◌}
use Prim.Native.Nat.{ℕ, zero, suc, ◌+◌, ◌*◌, ◌≤◌, ◌<◌}
use native.Mathlib.Decide.{ℕ_discrete}
use native.Mathlib.Numerals.{add-one}
use native.Mathlib.Omega.{arith}
use lib.IntN.{ℤ, pos}
use mir.Syntax.{w32}
use mir.Val.{SFits, to_z, of_z}
use mir.Facts.{to_z-of_z}
use lib.Dec.{eqb}
use lib.ListN.{length, get_or}
use borrow.Author.Tests.{eq-eqb, ne_eqb}
use Rattle.whole.specs.laws.Bools.{cond_yes, cond_no, never}
use Rattle.whole.specs.Fold.{all, tab}
use Rattle.whole.specs.laws.Tab.{get_or-tab}
use Rattle.whole.specs.laws.Search.{first-is, first-all}
use Rattle.lattice.specs.Lattice.{d3q19, density}
use Rattle.lattice.specs.Cell.{carry_good, mass_good, fill_of}
use Rattle.lattice.specs.inner.Held.{parts_of, good_fluid, good_interface}
use Rattle.lattice.specs.Body.{body_good, eq_z}
use Rattle.grid.specs.State.{lent, State, state_of, liquid, by_flag}
use Rattle.grid.specs.Step.{fill_for}
use Rattle.grid.specs.Good.{dry_good, interface_good, fluid_good, fill_good, cell_good, bad_rule}
use Rattle.lattice.proofs.Equal.{eq_z-true}
use Rattle.grid.proofs.Lists.{get_or-there}
use Rattle.grid.proofs.Same.{body_same, density-same, zeros-same}

module _ (flags : List ℕ) (parts masses : List ℤ) (fills : List ℕ) (carry : ℤ) where
  abbrev S : State
  S = state_of 18 (lent flags parts masses fills (carry ∷ []))

  abbrev n : ℕ
  n = length flags

  -- a cell's rules do not look at the carry
  same-cell : (c : ℕ) → cell_good d3q19 S c ≡ cell_good d3q19 (state_of 18 (lent flags parts masses fills (pos 0 ∷ []))) c
  unfolding cell_good dry_good interface_good fluid_good fill_good state_of
  same-cell c = refl

  same-carry : S.carry ≡ carry
  unfolding state_of
  same-carry = refl

  abbrev broken : ℕ → Bool
  broken c = cond (eqb c n) (not (carry_good S.carry)) (not (cell_good d3q19 S c))

  at-cell : (c : ℕ) (b : Bool) → c < n → cell_good d3q19 (state_of 18 (lent flags parts masses fills (pos 0 ∷ []))) c ≡ b → broken c ≡ not b
  at-cell c b h e =
      cond_no (not (carry_good S.carry)) (not (cell_good d3q19 S c)) (ne_eqb c n (λ p. absurd (omega arith))) ∙ ap not (same-cell c ∙ e)

  at-carry : (c : ℕ) (b : Bool) → c ≡ n → carry_good carry ≡ b → broken c ≡ not b
  at-carry c b h e =
      cond_yes (not (carry_good S.carry)) (not (cell_good d3q19 S c)) (eq-eqb c n h) ∙ ap not (ap carry_good same-carry ∙ e)

  module _ (c : ℕ) (good : (j : ℕ) → j < c → cell_good d3q19 (state_of 18 (lent flags parts masses fills (pos 0 ∷ []))) j ≡ true) where
    pub bad-cell : c < n → cell_good d3q19 (state_of 18 (lent flags parts masses fills (pos 0 ∷ []))) c ≡ false → c ≡ bad_rule d3q19 n S
    unfolding bad_rule
    bad-cell h e =
        sym (first-is (suc n) broken c (omega arith) (λ j k. at-cell j true (omega arith) (good j k)) (at-cell c false h e))

    pub bad-carry : c ≡ n → carry_good carry ≡ false → c ≡ bad_rule d3q19 n S
    unfolding bad_rule
    bad-carry h e =
        sym (first-is (suc n) broken c (omega arith) (λ j k. at-cell j true (omega arith) (good j k)) (at-carry c false h e))

    pub none-bad : c ≡ n → carry_good carry ≡ true → c + 1 ≡ bad_rule d3q19 n S
    unfolding bad_rule
    none-bad h e = ap (λ (m : ℕ). m + 1) h ∙ add-one n ∙ sym (first-all (suc n) broken (λ j k. at j k (ℕ_discrete j n)))
      where
        at : (j : ℕ) → j < suc n → Dec (j ≡ n) → broken j ≡ false
        at j k (yes p) = at-carry j true p e
        at j k (no f) = at-cell j true (less j n k f) (good j (omega (arith, less j n k f)))
          where
            less : (j n : ℕ) → j < suc n → (j ≡ n → ⊥) → j < n
            less j n k f = omega arith

-- ---- one cell

-- a number that is 0 by its bits
zero_bits : (z : ℤ) → SFits w32 z → eqb (of_z w32 z) 0 ≡ eq_z z (pos 0)
zero_bits z h = by (ℕ_discrete (of_z w32 z) 0)
  where
    by : Dec (of_z w32 z ≡ 0) → eqb (of_z w32 z) 0 ≡ eq_z z (pos 0)
    by (yes e) = eq-eqb (of_z w32 z) 0 e ∙ sym (ap (λ (y : ℤ). eq_z y (pos 0)) (sym (to_z-of_z {w = w32} h) ∙ ap (to_z w32) e))
    by (no f) = ne_eqb (of_z w32 z) 0 f ∙ sym (never (eq_z z (pos 0)) (λ t. f (ap (of_z w32) (eq_z-true z (pos 0) t))))

turned : (a b : Bool) → (a && b) ≡ (b && a)
turned true true = refl
turned true false = refl
turned false true = refl
turned false false = refl

wet-cases : (f : ℕ) (body dry : Bool) (m ρ : ℤ) (φ : ℕ) → liquid f ≡ true
    → cond (eqb f 2) (body && eq_z m ρ && eqb φ 65536) (body && mass_good m && eqb φ (fill_of m ρ)) ≡ (by_flag f dry (body && mass_good m) (body && eq_z m ρ) dry && eqb φ (fill_for f m ρ))
unfolding fill_for
wet-cases zero body dry m ρ φ l = absurd (false≢true l)
wet-cases (suc zero) body dry m ρ φ l = refl
wet-cases (suc (suc zero)) body dry m ρ φ l = refl
wet-cases (suc (suc (suc n))) body dry m ρ φ l = absurd (false≢true l)

dry-cases : (f : ℕ) (none zeros interface fluid : Bool) (m ρ : ℤ) (φ : ℕ) → liquid f ≡ false
    → (zeros && none && eqb φ 0) ≡ (by_flag f (none && zeros) interface fluid (none && zeros) && eqb φ (fill_for f m ρ))
unfolding fill_for
dry-cases zero none zeros interface fluid m ρ φ l = ap (λ (b : Bool). b && eqb φ 0) (turned zeros none)
dry-cases (suc zero) none zeros interface fluid m ρ φ l = absurd (false≢true (sym l))
dry-cases (suc (suc zero)) none zeros interface fluid m ρ φ l = absurd (false≢true (sym l))
dry-cases (suc (suc (suc n))) none zeros interface fluid m ρ φ l = ap (λ (b : Bool). b && eqb φ 0) (turned zeros none)

module _ (flags : List ℕ) (parts masses : List ℤ) (fills : List ℕ) (c : ℕ) (there : c < length flags) (v : List ℤ) (own : v ≡ tab 19 (λ k. get_or parts (19 * c + k) (pos 0))) where
  abbrev T : State
  T = state_of 18 (lent flags parts masses fills (pos 0 ∷ []))

  abbrev read : ℕ → ℤ
  read k = get_or v k (pos 0)

  part-is : (k : ℕ) → k ≤ d3q19.q → T.part c k ≡ read k
  unfolding d3q19 state_of
  part-is k h = sym (ap (λ (l : List ℤ). get_or l k (pos 0)) own ∙ get_or-tab 19 (λ k. get_or parts (19 * c + k) (pos 0)) (pos 0) k (omega arith))

  flag_is : T.flag c ≡ get_or flags c 0
  unfolding state_of
  flag_is = get_or-there flags c 3 0 there

  pub wet-cell : liquid (get_or flags c 0) ≡ true
      → cond (eqb (get_or flags c 0) 2) (good_fluid d3q19 (parts_of v) (get_or masses c (pos 0)) (get_or fills c 0)) (good_interface d3q19 (parts_of v) (get_or masses c (pos 0)) (get_or fills c 0))
      ≡ cell_good d3q19 T c
  unfolding cell_good interface_good fluid_good fill_good state_of good_fluid good_interface body_good
  wet-cell l =
      wet-cases (get_or flags c 0) (body_good d3q19 read) (dry_good d3q19 T c) (get_or masses c (pos 0)) (density d3q19 read) (get_or fills c 0) l
      ∙ rw (sym (body_same d3q19 (T.part c) read part-is), sym (density-same d3q19 (T.part c) read part-is), sym flag_is) refl

  pub dry-cell : liquid (get_or flags c 0) ≡ false → SFits w32 (get_or masses c (pos 0))
      → (all 19 (λ k. eq_z (read k) (pos 0)) && eqb (of_z w32 (get_or masses c (pos 0))) 0 && eqb (get_or fills c 0) 0) ≡ cell_good d3q19 T c
  unfolding cell_good dry_good fill_good state_of d3q19
  dry-cell l h =
      rw (zero_bits (get_or masses c (pos 0)) h, sym (zeros-same d3q19 (T.part c) read part-is))
      (dry-cases (get_or flags c 0) (eq_z (get_or masses c (pos 0)) (pos 0)) (all 19 (λ k. eq_z (T.part c k) (pos 0))) (interface_good d3q19 T c) (fluid_good d3q19 T c)
      (get_or masses c (pos 0)) (density d3q19 (T.part c)) (get_or fills c 0) l
      ∙ rw (sym flag_is) refl)
