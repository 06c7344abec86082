-- Stage 5 by marks: which cells are emptied after all, and the new flags, by offsets and in the box. Assumes nothing.
use mathlib.Core.Path.{◌≡◌, refl, sym, ap, ◌∙◌, subst}
use mathlib.Core.Bool.{Bool, true, false, ◌&&◌, cond, false≢true}
use mathlib.Core.List.{List}
use Prim.Native.Nat.{ℕ, suc, ◌+◌, ◌-◌, ◌*◌, ◌≤◌, ◌<◌}
use native.Mathlib.Omega.{arith}
use native.Mathlib.Decide.{dec_lt, ℕ_discrete}
use lib.Dec.{leb, ltb, eqb}
use lib.ListN.{length, get_or}
use borrow.Author.Tests.{eqb-true, le-leb, lt-ltb, eq-eqb, ne_eqb}
use Rattle.whole.specs.laws.Bools.{and-true, cond_yes, cond_no}
use Rattle.whole.specs.Fold.{tab}
use Rattle.whole.specs.laws.Tab.{tab-cong}
use Rattle.grid.specs.declared.Sides.{Sides}
use Rattle.grid.specs.Grid.{cells_of}
use Rattle.grid.specs.inner.Passes.{Reaching, inside, beside_at, beside_in, kept_by, kept_mark, EmptyingBy, Emptying, turned_at, turned_by, turned_flag, MarkedBy, Marked, Flagged}
use Rattle.grid.specs.State.{flag_of}
use Rattle.grid.specs.Step.{flag_after}
use Rattle.grid.proofs.Inside.{reaching, amid-inner}
use Rattle.grid.proofs.Walls.{inner, flag-low}
use Rattle.grid.proofs.Lists.{get_or-there}
use Rattle.grid.proofs.Beside.{Offsets}
use Rattle.grid.proofs.Ranges.{Ranged, ranged-all}
use Rattle.passes.proofs.Marking.{inside-inner, inner-inside, range-is, box-range, cond-cong, beside_same}
use Rattle.flow.proofs.Mirrored.{mirrored}
use Rattle.whole.specs.laws.Search.{any-cong}
use Rattle.conversion.specs.inner.Flags.{Enclosed}
use Rattle.conversion.proofs.Flags.{wall-after}

-- ---- pass 2

-- it does not touch a filled cell, so that later cells see the same filled ones
module _ (old off : List ℕ) (low n : ℕ) {out : List ℕ} {c : ℕ} (r : Ranged 0 (kept_by old off low) old 0 n out c) where
  ones : (x : ℕ) (b : Bool) → eqb (cond (eqb x 2) (cond b 0 2) x) 1 ≡ eqb x 1
  ones x b = by (eqb x 2) refl b
    where
      by : (t : Bool) → eqb x 2 ≡ t → (b : Bool) → eqb (cond (eqb x 2) (cond b 0 2) x) 1 ≡ eqb x 1
      by true e true = rw (eqb-true x 2 e) refl
      by true e false = rw (eqb-true x 2 e) refl
      by false e b = rw e refl

  same-ones : (j : ℕ) → eqb (get_or out j 0) 1 ≡ eqb (get_or old j 0) 1
  same-ones j = by (dec_lt j c)
    where
      either : (t : Bool) → eqb (cond t (kept_by old off low j) (get_or old j 0)) 1 ≡ eqb (get_or old j 0) 1
      either true = ones (get_or old j 0) (beside_at old off (j - low) 1)
      either false = refl

      by : Dec (j < c) → eqb (get_or out j 0) 1 ≡ eqb (get_or old j 0) 1
      by (yes h) = ap (λ (x : ℕ). eqb x 1) (r.done j h) ∙ either (leb 0 j && ltb j n)
      by (no h) = ap (λ (x : ℕ). eqb x 1) (r.rest j (omega arith))

  same_beside : (k : ℕ) → beside_at out off k 1 ≡ beside_at old off k 1
  unfolding beside_at
  same_beside k = any-cong 18 _ _ (λ a h. same-ones (k + get_or off (suc a) 0))

  -- a cell to be emptied, and any other
  pub settled-turn : (x : ℕ) → get_or out c 0 ≡ 2 → x ≡ cond (beside_at out off (c - low) 1) 0 2 → x ≡ kept_by old off low c
  settled-turn x e h =
      h ∙ ap (λ (b : Bool). cond b 0 2) (same_beside (c - low))
      ∙ sym (cond_yes (cond (beside_at old off (c - low) 1) 0 2) (get_or old c 0) (eq-eqb (get_or old c 0) 2 (sym (r.rest c (omega arith)) ∙ e)))

  pub settled-skip : (get_or out c 0 ≡ 2 → ⊥) → get_or old c 0 ≡ kept_by old off low c
  settled-skip f = sym (cond_no (cond (beside_at old off (c - low) 1) 0 2) (get_or old c 0) (ne_eqb (get_or old c 0) 2 (λ e. f (r.rest c (omega arith) ∙ e))))

pub settled : (marks off out : List ℕ) (low c : ℕ) → Ranged 0 (kept_by marks off low) marks 0 (length marks) out c → length marks ≤ c → out ≡ tab (length marks) (kept_by marks off low)
settled marks off out low c r h =
    ranged-all 0 (kept_by marks off low) marks 0 (length marks) out c (length marks) (kept_by marks off low) r h refl
    (λ j l. cond_yes (kept_by marks off low j) (get_or marks j 0) (and-true (leb 0 j) (ltb j (length marks)) (le-leb 0 j (omega arith)) (lt-ltb j (length marks) l)))

module _ {s : Sides} {off : List ℕ} {low : ℕ} (o : Offsets s off low) (marks : List ℕ) (w : Emptying s marks) where
  pub emptying-by : EmptyingBy marks off low
  emptying-by = record {
    reaching = subst (λ (n : ℕ). Reaching n off low) (sym w.count) (reaching s w.sides o);
    inner = λ c h e. amid-inner o w.count (w.inner c h e);
  }

  pub settled-box : tab (length marks) (kept_by marks off low) ≡ tab (cells_of s) (kept_mark s marks)
  unfolding kept_mark
  settled-box =
      ap (λ (n : ℕ). tab n (kept_by marks off low)) w.count
      ∙ tab-cong (cells_of s) (kept_by marks off low) (kept_mark s marks) 0
      (λ c h. cond-cong (eqb (get_or marks c 0) 2) (eqb (get_or marks c 0) 2) _ _ (get_or marks c 0) refl
      (λ t. ap (λ (b : Bool). cond b 0 2) (beside_same o marks 1 c w.count (w.inner c (omega (arith, w.count)) (eqb-true (get_or marks c 0) 2 t)))))

-- ---- pass 3
pub turned : (flags marks off out : List ℕ) (low c : ℕ) → Ranged 0 (turned_at flags marks off low) flags low (length flags - low) out c → length flags - low ≤ c
    → out ≡ tab (length flags) (turned_by flags marks off low)
turned flags marks off out low c r h =
    ranged-all 0 (turned_at flags marks off low) flags low (length flags - low) out c (length flags) (turned_by flags marks off low) r h refl
    (λ j l. ap (λ (b : Bool). cond b (turned_at flags marks off low j) (get_or flags j 0)) (range-is low (length flags) j))

-- a cell outside that range is wall
outside : {s : Sides} {flags : List ℕ} → Flagged s flags → (c : ℕ) → c < length flags → inside s c ≡ false → get_or flags c 0 ≡ 3
outside {s} {flags} w c h e = by (ℕ_discrete (get_or flags c 0) 3)
  where
    by : Dec (get_or flags c 0 ≡ 3) → get_or flags c 0 ≡ 3
    by (yes p) = p
    by (no f) = absurd (false≢true (sym e ∙ inner-inside s c (inner w c h f)))

module _ {s : Sides} {off : List ℕ} {low : ℕ} (o : Offsets s off low) (flags marks : List ℕ) (w : Marked s flags marks) where
  pub marked_by : MarkedBy flags marks off low
  marked_by = record {
    reaching = subst (λ (n : ℕ). Reaching n off low) (sym w.flagged.count) (reaching s w.flagged.sides o);
    count = w.count ∙ sym w.flagged.count;
    flagged = flag-low w.flagged;
    only = λ c h. w.only c (omega (arith, w.count, w.flagged.count));
  }

  pub enclosed : Enclosed flags off low
  enclosed = record {
    inner = λ c h f. amid-inner o w.flagged.count (inner w.flagged c h f);
    mirrored = mirrored s off low o.table o.lowest (omega (arith, marked_by.reaching.room, marked_by.reaching.few));
  }

  turned-is : (c : ℕ) → c < cells_of s → turned_by flags marks off low c ≡ turned_flag s flags marks c
  unfolding turned_flag
  turned-is c h = by (inside s c) refl
    where
      there : c < length flags
      there = omega (arith, w.flagged.count)

      by : (t : Bool) → inside s c ≡ t
          → turned_by flags marks off low c
          ≡ flag_after (flag_of flags c) (beside_in s marks 1 c) (eqb (get_or marks c 0) 1) (eqb (get_or marks c 0) 2) (beside_in s marks 2 c)
      by true e =
          let g = inside-inner s c e in
          cond_yes (turned_at flags marks off low c) (get_or flags c 0) (box-range o (length flags) c w.flagged.count ∙ e)
          ∙ rw (beside_same o marks 1 c w.count g, beside_same o marks 2 c w.count g, get_or-there flags c 0 3 there) refl
      by false e =
          cond_no (turned_at flags marks off low c) (get_or flags c 0) (box-range o (length flags) c w.flagged.count ∙ e)
          ∙ get_or-there flags c 0 3 there
          ∙ wall-after (flag_of flags c) (beside_in s marks 1 c) (eqb (get_or marks c 0) 1) (eqb (get_or marks c 0) 2) (beside_in s marks 2 c)
          (get_or-there flags c 3 0 there ∙ outside w.flagged c there e)

  pub turned-box : tab (length flags) (turned_by flags marks off low) ≡ tab (cells_of s) (turned_flag s flags marks)
  turned-box =
      ap (λ (n : ℕ). tab n (turned_by flags marks off low)) w.flagged.count
      ∙ tab-cong (cells_of s) (turned_by flags marks off low) (turned_flag s flags marks) 0 turned-is
