-- The passes over marks meet the stages: from the marks of stages 1 to 4, pass 2 leaves 1 at filled cells and 2 at emptied ones, and pass 3 the new flags
-- of stage 5. What each pass asks holds on the way. Assumes nothing.
use mathlib.Core.Path.{◌≡◌, refl, sym, ap, ◌∙◌, subst}
use mathlib.Core.Bool.{Bool, true, false, ◌&&◌, not, cond, false≢true}
use mathlib.Core.List.{List}
use Prim.Native.Nat.{ℕ, zero, suc, ◌+◌, ◌-◌, ◌≤◌, ◌<◌}
use native.Mathlib.Decide.{ℕ_discrete}
use native.Mathlib.Omega.{arith}
use lib.Dec.{leb, ltb, eqb}
use lib.ListN.{length, get_or}
use borrow.Author.Tests.{le-leb, lt-ltb}
use Rattle.whole.specs.laws.Bools.{and-true, cond_yes}
use Rattle.whole.specs.Fold.{tab, any_dir, first}
use Rattle.whole.specs.laws.Tab.{length-tab, get_or-tab, tab-cong}
use Rattle.lattice.specs.Lattice.{d3q19}
use Rattle.lattice.specs.Cell.{over, under}
use Rattle.grid.specs.State.{Scene, by_flag}
use Rattle.grid.specs.Step.{traded_mass, streamed_density, unsteady, filled, emptied, beside_filled, beside_emptied, new_flag}
use Rattle.grid.specs.inner.Passes.{Amid, amid, Reaching, beside_at, kept_by, EmptyingBy, turned_at, turned_by, MarkedBy}
use Rattle.grid.specs.inner.Between.{first_mark, settled_mark}
use Rattle.grid.proofs.Accurate.{not-both, both-tests}
use Rattle.grid.proofs.Lists.{get_or-there}
use Rattle.conversion.proofs.Amounts.{inner-cell, new-dense}
use Rattle.conversion.proofs.Field.{Field, scene_in, Sound, reaching}
use Rattle.conversion.proofs.Flags.{wall-after}
use Rattle.whole.specs.laws.Search.{any-cong}
use Rattle.grid.proofs.Dense.{filled-wet}

-- ---- by cases on the old flag and the tests alone

abbrev marked : ℕ → Bool → Bool → ℕ
marked f o u = by_flag f 0 (cond o 1 (cond u 2 0)) 0 0

abbrev settled_by : Bool → Bool → ℕ
settled_by fi em = cond fi 1 (cond em 2 0)

only-interface : (f : ℕ) (o u : Bool) → marked f o u ≡ 2 → f ≡ 1
only-interface zero o u e = absurd (omega arith)
only-interface (suc zero) o u e = refl
only-interface (suc (suc zero)) o u e = absurd (omega arith)
only-interface (suc (suc (suc n))) o u e = absurd (omega arith)

one-filled : (f : ℕ) (o u : Bool) → eqb (marked f o u) 1 ≡ by_flag f false o false false
one-filled zero o u = refl
one-filled (suc zero) true u = refl
one-filled (suc zero) false true = refl
one-filled (suc zero) false false = refl
one-filled (suc (suc zero)) o u = refl
one-filled (suc (suc (suc n))) o u = refl

-- x: by the marks, a neighbour is filled; y: by the stage
settles : (f : ℕ) (o u x y : Bool) → (f ≡ 1 → x ≡ y)
    → cond (eqb (marked f o u) 2) (cond x 0 2) (marked f o u) ≡ settled_by (by_flag f false o false false) (by_flag f false (u && not y) false false)
settles zero o u x y e = refl
settles (suc zero) true u x y e = refl
settles (suc zero) false true x y e = turn x y (e refl)
  where
    turn : (x y : Bool) → x ≡ y → ◌≡◌ {A = ℕ} (cond x 0 2) (cond (not y) 2 0)
    turn true y p = subst (λ (b : Bool). ◌≡◌ {A = ℕ} 0 (cond (not b) 2 0)) p refl
    turn false y p = subst (λ (b : Bool). ◌≡◌ {A = ℕ} 2 (cond (not b) 2 0)) p refl
settles (suc zero) false false x y e = refl
settles (suc (suc zero)) o u x y e = refl
settles (suc (suc (suc n))) o u x y e = refl

no-mark : (f : ℕ) (o u : Bool) → (f ≡ 1 → ⊥) → settled_by (by_flag f false o false false) (by_flag f false u false false) ≡ 0
no-mark zero o u e = refl
no-mark (suc zero) o u e = absurd (e refl)
no-mark (suc (suc zero)) o u e = refl
no-mark (suc (suc (suc n))) o u e = refl

settled-one : (fi em : Bool) → eqb (settled_by fi em) 1 ≡ fi
settled-one true em = refl
settled-one false true = refl
settled-one false false = refl

settled-two : (fi em : Bool) → (fi ≡ true → em ≡ true → ⊥) → eqb (settled_by fi em) 2 ≡ em
settled-two true true h = absurd (h refl refl)
settled-two true false h = refl
settled-two false true h = refl
settled-two false false h = refl

-- ---- in a field

module _ (F : Field) (v : Sound F) where
  abbrev S : Scene
  S = scene_in F

  abbrev n : ℕ
  n = F.cells

  abbrev flag_of : ℕ → ℕ
  flag_of c = get_or F.flags c 3

  cell : {c : ℕ} → c < n → c < length F.flags
  cell {c} h = subst (λ (m : ℕ). c < m) (sym v.stands.count) h

  -- a cell that is not wall has all its neighbours
  within : (c : ℕ) → c < n → (flag_of c ≡ 3 → ⊥) → Amid n F.low c
  within c h f = inner-cell F v.stands c h f

  -- a test of the neighbours' marks that is one of the neighbours is the stage's
  beside-test : (mark : ℕ → ℕ) (m : ℕ) (test : ℕ → Bool) → ((d : ℕ) → d < n → eqb (mark d) m ≡ test d) → (c : ℕ) → Amid n F.low c
      → beside_at (tab n mark) F.off (c - F.low) m ≡ any_dir 18 (λ i. test (F.grid.near c i))
  unfolding beside_at
  beside-test mark m test h c g =
      any-cong 18 (λ a. eqb (get_or (tab n mark) (c - F.low + get_or F.off (suc a) 0) 0) m) (λ a. test (F.grid.near c (suc a)))
      (λ a l.
      let k : suc a < 19 = omega arith in
      let b : F.grid.near c (suc a) < n = v.stands.near-low c (suc a) g k in
      ap (λ (j : ℕ). eqb (get_or (tab n mark) j 0) m) (v.stands.place c (suc a) g k)
      ∙ ap (λ (x : ℕ). eqb x m) (get_or-tab n mark 0 (F.grid.near c (suc a)) b) ∙ h (F.grid.near c (suc a)) b)

  -- ---- pass 2
  interface : (c : ℕ) → first_mark S c ≡ 2 → flag_of c ≡ 1
  unfolding first_mark
  interface c e = only-interface (flag_of c) (over (traded_mass S c) (streamed_density S c)) (under (traded_mass S c) (streamed_density S c)) e

  first_one : (d : ℕ) → eqb (first_mark S d) 1 ≡ filled S d
  unfolding first_mark filled
  first_one d = one-filled (flag_of d) (over (traded_mass S d) (streamed_density S d)) (under (traded_mass S d) (streamed_density S d))

  beside-filled : (c : ℕ) → Amid n F.low c → beside_at (tab n (first_mark S)) F.off (c - F.low) 1 ≡ beside_filled S c
  unfolding beside_filled d3q19
  beside-filled c i = beside-test (first_mark S) 1 (filled S) (λ d h. first_one d) c i

  kept-is : (c : ℕ) → c < n → kept_by (tab n (first_mark S)) F.off F.low c ≡ settled_mark S c
  unfolding first_mark settled_mark filled emptied
  kept-is c h =
      ap (λ (m : ℕ). cond (eqb m 2) (cond (beside_at (tab n (first_mark S)) F.off (c - F.low) 1) 0 2) m) (get_or-tab n (first_mark S) 0 c h)
      ∙ settles (flag_of c) (over (traded_mass S c) (streamed_density S c)) (under (traded_mass S c) (streamed_density S c))
      (beside_at (tab n (first_mark S)) F.off (c - F.low) 1) (beside_filled S c) (λ e. beside-filled c (within c h (λ k. absurd (omega arith))))

  module _ {marks : List ℕ} (e : marks ≡ tab n (first_mark S)) where
    first_count : length marks ≡ n
    first_count = ap length e ∙ length-tab n (first_mark S)

    -- what pass 2 asks
    pub emptying : EmptyingBy marks F.off F.low
    emptying = record {
      reaching = subst (λ (m : ℕ). Reaching m F.off F.low) (sym first_count) (reaching F v);
      inner = λ c h k. subst (λ (m : ℕ). Amid m F.low c) (sym first_count) (at c (subst (λ (m : ℕ). c < m) first_count h) k);
    }
      where
        at : (c : ℕ) → c < n → get_or marks c 0 ≡ 2 → Amid n F.low c
        at c h k =
            let i = interface c (sym (get_or-tab n (first_mark S) 0 c h) ∙ sym (ap (λ (l : List ℕ). get_or l c 0) e) ∙ k) in
            within c h (λ w. absurd (omega arith))

    -- it leaves stage 5's filled and emptied cells
    pub settled-marks : {after : List ℕ} → after ≡ tab (length marks) (kept_by marks F.off F.low) → after ≡ tab n (settled_mark S)
    settled-marks f =
        f ∙ ap (λ (m : ℕ). tab m (kept_by marks F.off F.low)) first_count ∙ ap (λ (l : List ℕ). tab n (kept_by l F.off F.low)) e
        ∙ tab-cong n (kept_by (tab n (first_mark S)) F.off F.low) (settled_mark S) 0 kept-is

  -- ---- pass 3
  unmarked : (c : ℕ) → (flag_of c ≡ 1 → ⊥) → settled_mark S c ≡ 0
  unfolding settled_mark filled emptied
  unmarked c f =
      no-mark (flag_of c) (over (traded_mass S c) (streamed_density S c)) (under (traded_mass S c) (streamed_density S c) && not (beside_filled S c)) f

  settled-filled : (d : ℕ) → eqb (settled_mark S d) 1 ≡ filled S d
  unfolding settled_mark
  settled-filled d = settled-one (filled S d) (emptied S d)

  module _ {marks : List ℕ} (e : marks ≡ tab n (settled_mark S)) where
    settled-count : length marks ≡ n
    settled-count = ap length e ∙ length-tab n (settled_mark S)

    mark-at : (c : ℕ) → c < n → get_or marks c 0 ≡ settled_mark S c
    mark-at c h = ap (λ (l : List ℕ). get_or l c 0) e ∙ get_or-tab n (settled_mark S) 0 c h

    -- what pass 3 asks
    pub settled-marked : MarkedBy F.flags marks F.off F.low
    settled-marked = record {
      reaching = subst (λ (m : ℕ). Reaching m F.off F.low) (sym v.stands.count) (reaching F v);
      count = settled-count ∙ sym v.stands.count;
      flagged = λ c h. subst (λ (f : ℕ). f < 4) (get_or-there F.flags c 3 0 h) (v.flagged c (listed h));
      only = λ c h f. mark-at c (listed h) ∙ unmarked c (λ k. f (get_or-there F.flags c 0 3 h ∙ k));
    }
      where
        listed : {c : ℕ} → c < length F.flags → c < n
        listed {c} h = subst (λ (m : ℕ). c < m) v.stands.count h

    module _ (steady : n ≤ first n (unsteady S)) where
      -- no cell is both filled and emptied
      apart : (c : ℕ) → c < n → filled S c ≡ true → emptied S c ≡ true → ⊥
      unfolding filled emptied
      apart c h p q =
          let t = both-tests (flag_of c) (over (traded_mass S c) (streamed_density S c)) (under (traded_mass S c) (streamed_density S c)) _ p q in
          not-both (traded_mass S c) (streamed_density S c) (new-dense F v.stands steady c h (filled-wet (flag_of c) (over (traded_mass S c) (streamed_density S c)) p)) t.0 t.1

      settled-emptied : (d : ℕ) → d < n → eqb (settled_mark S d) 2 ≡ emptied S d
      unfolding settled_mark
      settled-emptied d h = settled-two (filled S d) (emptied S d) (apart d h)

      beside-settled : (c : ℕ) → Amid n F.low c → beside_at marks F.off (c - F.low) 1 ≡ beside_filled S c
      unfolding beside_filled d3q19
      beside-settled c i =
          ap (λ (l : List ℕ). beside_at l F.off (c - F.low) 1) e ∙ beside-test (settled_mark S) 1 (filled S) (λ d h. settled-filled d) c i

      beside-emptied : (c : ℕ) → Amid n F.low c → beside_at marks F.off (c - F.low) 2 ≡ beside_emptied S c
      unfolding beside_emptied d3q19
      beside-emptied c i = ap (λ (l : List ℕ). beside_at l F.off (c - F.low) 2) e ∙ beside-test (settled_mark S) 2 (emptied S) settled-emptied c i

      -- a wall, in the range or not, stays wall; any other cell is in the range
      turned-is : (c : ℕ) → c < n → Dec (flag_of c ≡ 3) → turned_by F.flags marks F.off F.low c ≡ new_flag S c
      unfolding new_flag
      turned-is c h (yes w) =
          either (amid (length F.flags) F.low c)
          ∙ get_or-there F.flags c 0 3 (cell h) ∙ wall-after (flag_of c) (beside_filled S c) (filled S c) (emptied S c) (beside_emptied S c) w
        where
          own : get_or F.flags c 0 ≡ 3
          own = get_or-there F.flags c 0 3 (cell h) ∙ w

          either : (b : Bool) → cond b (turned_at F.flags marks F.off F.low c) (get_or F.flags c 0) ≡ get_or F.flags c 0
          either true =
              sym (wall-after (get_or F.flags c 0) (beside_at marks F.off (c - F.low) 1) (eqb (get_or marks c 0) 1) (eqb (get_or marks c 0) 2) (beside_at marks F.off (c - F.low) 2) own)
          either false = refl
      turned-is c h (no f) =
          let i = within c h f in
          let m = mark-at c h in
          cond_yes (turned_at F.flags marks F.off F.low c) (get_or F.flags c 0) (ranged i)
          ∙ rw (beside-settled c i, beside-emptied c i, m, settled-filled c, settled-emptied c h, get_or-there F.flags c 0 3 (cell h)) refl
        where
          ranged : Amid n F.low c → amid (length F.flags) F.low c ≡ true
          ranged i =
              and-true (leb F.low c) (ltb (c + F.low) (length F.flags)) (le-leb F.low c i.from)
              (lt-ltb (c + F.low) (length F.flags) (subst (λ (m : ℕ). c + F.low < m) (sym v.stands.count) i.to))

      -- it writes stage 5's new flags
      pub turned-flags : {flags : List ℕ} → flags ≡ tab (length F.flags) (turned_by F.flags marks F.off F.low) → flags ≡ tab n (new_flag S)
      turned-flags f =
          f ∙ ap (λ (m : ℕ). tab m (turned_by F.flags marks F.off F.low)) v.stands.count
          ∙ tab-cong n (turned_by F.flags marks F.off F.low) (new_flag S) 0 (λ c h. turned-is c h (ℕ_discrete (flag_of c) 3))
