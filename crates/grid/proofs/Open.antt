-- Test 5 by offsets: the lowest fluid cell beside an empty one; and in the box it is test 5's place. Assumes nothing.
use borrow.Author.Tests.{ne_eqb, eq-eqb, eqb-true}
use mathlib.Core.Path.{◌≡◌, refl, sym, ap, ap₂, ◌∙◌, subst}
use mathlib.Core.Bool.{Bool, true, false, ◌&&◌}
use mathlib.Core.List.{List}
use Prim.Native.Nat.{ℕ, suc, ◌+◌, ◌-◌, ◌≤◌, ◌<◌}
use native.Mathlib.Omega.{arith}
use native.Mathlib.Decide.{ℕ_discrete}
use lib.Dec.{eqb}
use lib.ListN.{length, get_or}
use Rattle.whole.specs.Fold.{first, any_dir}
use Rattle.whole.specs.laws.Bools.{and-true}
use Rattle.whole.specs.laws.Search.{first-is, first-all, first_cong, any-hit}
use Rattle.grid.specs.declared.Sides.{Sides}
use Rattle.grid.specs.Grid.{grid_of, box, cells_of}
use Rattle.grid.specs.Good.{bad_fluid, open_fluid}
use Rattle.grid.specs.inner.Passes.{Reaching, beside_at, open_at, open_place, Embedded, Flagged}
use Rattle.grid.specs.State.{flag_of}
use Rattle.grid.proofs.Walls.{inner}
use Rattle.grid.proofs.Beside.{Offsets, beside-is, any_none}
use Rattle.grid.proofs.Inside.{reaching, amid-inner}
use Rattle.grid.proofs.Lists.{get_or-there}

module _ (flags off : List ℕ) (low c : ℕ) where
  pub dry : (get_or flags c 0 ≡ 2 → ⊥) → open_at flags off low c ≡ false
  dry h = ap (λ (b : Bool). b && beside_at flags off (c - low) 0) (ne_eqb (get_or flags c 0) 2 h)

  pub shut : ((j : ℕ) → suc j < 19 → eqb (get_or flags (c - low + get_or off (suc j) 0) 0) 0 ≡ false) → open_at flags off low c ≡ false
  unfolding beside_at
  shut h =
      ap (λ (b : Bool). eqb (get_or flags c 0) 2 && b) (any_none 18 (λ a. eqb (get_or flags (c - low + get_or off (suc a) 0) 0) 0) (λ a k. h a (omega arith)))
      ∙ never-and (eqb (get_or flags c 0) 2)
    where
      never-and : (b : Bool) → (b && false) ≡ false
      never-and true = refl
      never-and false = refl

  pub wet : get_or flags c 0 ≡ 2 → (i : ℕ) → 1 ≤ i → i < 19 → get_or flags (c - low + get_or off i 0) 0 ≡ 0 → open_at flags off low c ≡ true
  unfolding beside_at
  wet f i h k e =
      let same : suc (i - 1) ≡ i = omega arith in
      and-true (eqb (get_or flags c 0) 2) (beside_at flags off (c - low) 0) (eq-eqb (get_or flags c 0) 2 f)
      (any-hit 18 (λ a. eqb (get_or flags (c - low + get_or off (suc a) 0) 0) 0) (i - 1) (omega arith)
      (eq-eqb _ 0 (ap (λ (m : ℕ). get_or flags (c - low + get_or off m 0) 0) same ∙ e)))

-- the lowest such cell
module _ (flags off : List ℕ) (low : ℕ) where
  pub found : (c : ℕ) → c < length flags → ((j : ℕ) → j < c → open_at flags off low j ≡ false) → open_at flags off low c ≡ true → c ≡ open_place flags off low
  unfolding open_place
  found c h shut-below t = sym (first-is (length flags) (open_at flags off low) c h shut-below t)

  pub none_found : (c : ℕ) → c ≤ length flags → length flags ≤ c → ((j : ℕ) → j < c → open_at flags off low j ≡ false) → c ≡ open_place flags off low
  unfolding open_place
  none_found c h g all-shut = sym (first-all (length flags) (open_at flags off low) (λ j k. all-shut j (omega arith)) ∙ omega arith)

  -- a fluid cell has all its neighbours, so no other need be looked at
  pub none_inside : Embedded flags off low → ((j : ℕ) → j < length flags - low → low ≤ j → open_at flags off low j ≡ false) → length flags ≡ open_place flags off low
  none_inside w h = none_found (length flags) (omega arith) (omega arith) (λ j k. by j k (ℕ_discrete (get_or flags j 0) 2))
    where
      by : (j : ℕ) → j < length flags → Dec (get_or flags j 0 ≡ 2) → open_at flags off low j ≡ false
      by j k (no f) = dry flags off low j f
      by j k (yes f) = let g = w.fluid j k f in h j (omega (arith, g.to)) g.from

-- in the box the test by offsets is test 5's at each cell, and what it asks holds
module _ {s : Sides} (flags off : List ℕ) (low : ℕ) (w : Flagged s flags) (o : Offsets s off low) where
  test : (c : ℕ) → c < cells_of s → open_at flags off low c ≡ open_fluid 18 (grid_of s) (flag_of flags) c
  unfolding open_fluid
  test c h = by (eqb (get_or flags c 0) 2) refl
    where
      k : c < length flags
      k = omega (arith, w.count)

      by : (b : Bool) → eqb (get_or flags c 0) 2 ≡ b
          → open_at flags off low c ≡ (eqb (flag_of flags c) 2 && any_dir 18 (λ i. eqb (flag_of flags ((grid_of s).near c i)) 0))
      by true e =
          ap₂ (λ (x y : Bool). x && y) (ap (λ (f : ℕ). eqb f 2) (get_or-there flags c 0 3 k))
          (beside-is o c (inner w c k (λ t. absurd (omega (arith, eqb-true (get_or flags c 0) 2 e)))) flags 3 0 w.count)
      by false e =
          ap (λ (b : Bool). b && beside_at flags off (c - low) 0) e
          ∙ sym (ap (λ (b : Bool). b && any_dir 18 (λ i. eqb (flag_of flags ((grid_of s).near c i)) 0)) (ap (λ (f : ℕ). eqb f 2) (get_or-there flags c 3 0 k) ∙ e))

  pub open-box : open_place flags off low ≡ bad_fluid 18 (grid_of s) (flag_of flags)
  unfolding open_place bad_fluid grid_of box cells_of
  open-box =
      ap (λ (n : ℕ). first n (open_at flags off low)) w.count
      ∙ first_cong (cells_of s) 0 (open_at flags off low) (open_fluid 18 (grid_of s) (flag_of flags)) (λ a h. test (0 + a) (omega arith))

  pub embedded : Embedded flags off low
  embedded = record {
    reaching = subst (λ (n : ℕ). Reaching n off low) (sym w.count) (reaching s w.sides o);
    fluid = λ c h e. amid-inner o w.count (inner w c h (λ t. absurd (omega arith)));
  }
