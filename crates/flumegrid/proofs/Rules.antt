-- Test 6's place over any lattice: the lowest cell that breaks a rule, N for the carry alone, N + 1 if nothing is broken. And a flume cell's rules, read from
-- its nine parts at their places: an idle place holds 0 and adds nothing. Assumes nothing.
use mathlib.Core.Path.{◌≡◌, refl, sym, ap, ◌∙◌}
use mathlib.Core.Bool.{Bool, true, false, not, cond, ◌&&◌}
use mathlib.Core.List.{List, [], ◌∷◌}
use Prim.Native.Nat.{ℕ, zero, suc, ◌+◌, ◌*◌, ◌<◌}
use native.Mathlib.Decide.{ℕ_discrete}
use native.Mathlib.Numerals.{add-one}
use native.Mathlib.Omega.{arith}
use lib.IntN.{ℤ, pos}
use mir.Syntax.{w32}
use mir.Val.{SFits, of_z}
use lib.Dec.{eqb}
use lib.ListN.{length, get_or}
use borrow.Author.Tests.{eq-eqb, ne_eqb}
use Rattle.whole.specs.laws.Bools.{cond_yes, cond_no}
use Rattle.whole.specs.Fold.{all, tab}
use Rattle.whole.specs.laws.Tab.{get_or-tab, tab-cong}
use Rattle.whole.specs.laws.Search.{first-is, first-all}
use Rattle.lattice.specs.Lattice.{Lattice, d3q19, d2q9, density, momentum}
use Rattle.lattice.specs.Cell.{carry_good}
use Rattle.lattice.specs.inner.Held.{parts_of, good_fluid, good_interface}
use Rattle.lattice.specs.Body.{body_good, eq_z}
use Rattle.grid.specs.State.{lent, State, state_of, liquid}
use Rattle.grid.specs.Good.{dry_good, interface_good, fluid_good, fill_good, cell_good, bad_rule}
use Rattle.grid.specs.Demands.{Same}
use Rattle.grid.proofs.Lists.{get_or-there}
use Rattle.grid.proofs.Same.{cell_same}
use Rattle.grid.proofs.Rules.{wet-cell, dry-cell}
use Rattle.flume.specs.inner.Spread.{spread, spread_lattice, spread_state, SpreadOf}
use Rattle.flume.proofs.Bridge.{cell-good-same, spread-of}

-- ---- test 6's place
module _ (L : Lattice) (n : ℕ) (s : State) where
  abbrev broken : ℕ → Bool
  broken c = cond (eqb c n) (not (carry_good s.carry)) (not (cell_good L s c))

  at-cell : (c : ℕ) (b : Bool) → c < n → cell_good L s c ≡ b → broken c ≡ not b
  at-cell c b h e = cond_no (not (carry_good s.carry)) (not (cell_good L s c)) (ne_eqb c n (λ p. absurd (omega arith))) ∙ ap not e

  at-carry : (c : ℕ) (b : Bool) → c ≡ n → carry_good s.carry ≡ b → broken c ≡ not b
  at-carry c b h e = cond_yes (not (carry_good s.carry)) (not (cell_good L s c)) (eq-eqb c n h) ∙ ap not e

  module _ (c : ℕ) (good : (j : ℕ) → j < c → cell_good L s j ≡ true) where
    bad-cell : c < n → cell_good L s c ≡ false → c ≡ bad_rule L n s
    unfolding bad_rule
    bad-cell h e = sym (first-is (suc n) broken c (omega arith) (λ j k. at-cell j true (omega arith) (good j k)) (at-cell c false h e))

    bad-carry : c ≡ n → carry_good s.carry ≡ false → c ≡ bad_rule L n s
    unfolding bad_rule
    bad-carry h e = sym (first-is (suc n) broken c (omega arith) (λ j k. at-cell j true (omega arith) (good j k)) (at-carry c false h e))

    none-bad : c ≡ n → carry_good s.carry ≡ true → c + 1 ≡ bad_rule L n s
    unfolding bad_rule
    none-bad h e = ap (λ (m : ℕ). m + 1) h ∙ add-one n ∙ sym (first-all (suc n) broken (λ j k. at j k (ℕ_discrete j n)))
      where
        at : (j : ℕ) → j < suc n → Dec (j ≡ n) → broken j ≡ false
        at j k (yes p) = at-carry j true p e
        at j k (no f) = at-cell j true (less j n k f) (good j (omega (arith, less j n k f)))
          where
            less : (j n : ℕ) → j < suc n → (j ≡ n → ⊥) → j < n
            less j n k f = omega arith

-- a flume's set whose cells below c keep the rules, which do not look at the carry
module _ (flags : List ℕ) (parts masses : List ℤ) (fills : List ℕ) (carry : ℤ) where
  abbrev S : State
  S = state_of 8 (lent flags parts masses fills (carry ∷ []))

  same-cell : (c : ℕ) → cell_good d2q9 S c ≡ cell_good d2q9 (state_of 8 (lent flags parts masses fills (pos 0 ∷ []))) c
  unfolding cell_good dry_good interface_good fluid_good fill_good state_of
  same-cell c = refl

  same-carry : S.carry ≡ carry
  unfolding state_of
  same-carry = refl

  module _ (c : ℕ) (good : (j : ℕ) → j < c → cell_good d2q9 (state_of 8 (lent flags parts masses fills (pos 0 ∷ []))) j ≡ true) where
    abbrev goods : (j : ℕ) → j < c → cell_good d2q9 S j ≡ true
    goods j k = same-cell j ∙ good j k

    pub nine-cell : c < length flags → cell_good d2q9 (state_of 8 (lent flags parts masses fills (pos 0 ∷ []))) c ≡ false → c ≡ bad_rule d2q9 (length flags) S
    nine-cell h e = bad-cell d2q9 (length flags) S c goods h (same-cell c ∙ e)

    pub nine-carry : c ≡ length flags → carry_good carry ≡ false → c ≡ bad_rule d2q9 (length flags) S
    nine-carry h e = bad-carry d2q9 (length flags) S c goods h (ap carry_good same-carry ∙ e)

    pub nine-none : c ≡ length flags → carry_good carry ≡ true → c + 1 ≡ bad_rule d2q9 (length flags) S
    nine-none h e = none-bad d2q9 (length flags) S c goods h (ap carry_good same-carry ∙ e)

-- ---- one cell: the law of nineteen parts, on a box of this one cell
module _ (flags : List ℕ) (parts masses : List ℤ) (fills : List ℕ) (c : ℕ) (there : c < length flags) (v : List ℤ)
    (own : v ≡ tab 19 (spread (pos 0) (λ k. get_or parts (9 * c + k) (pos 0)))) where
  abbrev T : State
  T = state_of 8 (lent flags parts masses fills (pos 0 ∷ []))

  abbrev f : ℕ
  f = get_or flags c 0

  abbrev m : ℤ
  m = get_or masses c (pos 0)

  abbrev φ : ℕ
  φ = get_or fills c 0

  -- the cell alone, its parts among the nineteen places, as a set and as functions
  abbrev alone : State
  alone = state_of 18 (lent (f ∷ []) v (m ∷ []) (φ ∷ []) (pos 0 ∷ []))

  abbrev everywhere : State
  everywhere = record { flag = λ j. T.flag c; part = λ j. (spread_state T).part c; mass = λ j. T.mass c; fill = λ j. T.fill c; carry = pos 0 }

  read : (k : ℕ) → k < 19 → get_or v (19 * 0 + k) (pos 0) ≡ spread (pos 0) (λ k. get_or parts (9 * c + k) (pos 0)) k
  read k h =
      let e : 19 * 0 + k ≡ k = omega arith in
      ap (λ (i : ℕ). get_or v i (pos 0)) e ∙ ap (λ (l : List ℤ). get_or l k (pos 0)) own ∙ get_or-tab 19 (spread (pos 0) (λ k. get_or parts (9 * c + k) (pos 0))) (pos 0) k h

  own_alone : v ≡ tab 19 (λ k. get_or v (19 * 0 + k) (pos 0))
  own_alone = own ∙ sym (tab-cong 19 (λ k. get_or v (19 * 0 + k) (pos 0)) (spread (pos 0) (λ k. get_or parts (9 * c + k) (pos 0))) (pos 0) read)

  same : Same 18 1 alone everywhere
  unfolding state_of
  same = record {
    flags = λ j h. flag_is j h;
    parts = λ j k h l. part-is j k h (omega arith);
    masses = λ j h. mass-is j h;
    fills = λ j h. fill_is j h;
    carries = refl;
  }
    where
      flag_is : (j : ℕ) → j < 1 → get_or (f ∷ []) j 3 ≡ get_or flags c 3
      flag_is zero h = get_or-there flags c 0 3 there
      flag_is (suc j) h = absurd (omega arith)

      part-is : (j k : ℕ) → j < 1 → k < 19 → get_or v (19 * j + k) (pos 0) ≡ spread (pos 0) (λ k. get_or parts (9 * c + k) (pos 0)) k
      part-is zero k h l = read k l
      part-is (suc j) k h l = absurd (omega arith)

      mass-is : (j : ℕ) → j < 1 → get_or (m ∷ []) j (pos 0) ≡ m
      mass-is zero h = refl
      mass-is (suc j) h = absurd (omega arith)

      fill_is : (j : ℕ) → j < 1 → get_or (φ ∷ []) j 0 ≡ φ
      fill_is zero h = refl
      fill_is (suc j) h = absurd (omega arith)

  -- no rule reads a weight, nor another cell
  weightless : cell_good d3q19 everywhere 0 ≡ cell_good spread_lattice (spread_state T) c
  unfolding cell_good dry_good interface_good fluid_good fill_good body_good density momentum state_of
  weightless = refl

  spread-T : SpreadOf T (spread_state T)
  spread-T = spread-of (record { lat = d2q9; grid = record { cells = 0; near = λ c i. c; outer = λ c. false }; old = T; g = record { x = pos 0; y = pos 0; z = pos 0 }; relax = λ c. pos 0 })

  flume-cell : cell_good d3q19 alone 0 ≡ cell_good d2q9 T c
  unfolding d3q19
  flume-cell = cell_same d3q19 1 alone everywhere same 0 (omega arith) ∙ weightless ∙ cell-good-same T (spread_state T) spread-T c

  pub wet-nine : liquid f ≡ true → cond (eqb f 2) (good_fluid d3q19 (parts_of v) m φ) (good_interface d3q19 (parts_of v) m φ) ≡ cell_good d2q9 T c
  wet-nine l = wet-cell (f ∷ []) v (m ∷ []) (φ ∷ []) 0 (omega arith) v own_alone l ∙ flume-cell

  pub dry-nine : liquid f ≡ false → SFits w32 m → (all 19 (λ k. eq_z (get_or v k (pos 0)) (pos 0)) && eqb (of_z w32 m) 0 && eqb φ 0) ≡ cell_good d2q9 T c
  dry-nine l h = dry-cell (f ∷ []) v (m ∷ []) (φ ∷ []) 0 (omega arith) v own_alone l h ∙ flume-cell
