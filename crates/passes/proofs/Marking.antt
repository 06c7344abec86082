-- Pass 0 over marks, by offsets: the range that a loop over marks goes over, one by one or some together, is the cells with neighbours; and in the box what it finds is what the grid's
-- neighbours have. Assumes nothing.
use mathlib.Core.Path.{◌≡◌, refl, ap, ap₂, ◌∙◌}
use mathlib.Core.Bool.{Bool, true, false, ◌&&◌, cond}
use mathlib.Core.List.{List}
use Prim.Native.Nat.{ℕ, ◌+◌, ◌-◌, ◌≤◌}
use native.Mathlib.Omega.{arith}
use lib.Dec.{leb, ltb}
use lib.ListN.{length, get_or}
use borrow.Author.Tests.{leb-true, ltb-true, le-leb, lt-ltb}
use Rattle.whole.specs.laws.Bools.{and_left, and_right, and-true, cond_yes, cond_no}
use Rattle.whole.specs.Fold.{tab}
use Rattle.whole.specs.laws.Tab.{tab-cong}
use Rattle.grid.specs.declared.Sides.{Sides}
use Rattle.grid.specs.Grid.{cells_of}
use Rattle.grid.specs.inner.Passes.{amid, Inner, low_of, inside, beside_at, beside_in, open_mark, opened_by, opened_mark}
use Rattle.grid.proofs.Beside.{Offsets, beside-is}
use Rattle.grid.proofs.Ranges.{ltb-same, Ranged, ranged-all}

pub inside-inner : (s : Sides) (c : ℕ) → inside s c ≡ true → Inner s c
unfolding inside
inside-inner s c e =
    record {
      low = leb-true (low_of s) c (and_left (leb (low_of s) c) (ltb (c + low_of s) (cells_of s)) e);
      high = ltb-true (c + low_of s) (cells_of s) (and_right (leb (low_of s) c) (ltb (c + low_of s) (cells_of s)) e);
    }

pub inner-inside : (s : Sides) (c : ℕ) → Inner s c → inside s c ≡ true
unfolding inside
inner-inside s c g = and-true (leb (low_of s) c) (ltb (c + low_of s) (cells_of s)) (le-leb (low_of s) c g.low) (lt-ltb (c + low_of s) (cells_of s) g.high)

-- the range of a loop from low to the end
pub range-is : (low n c : ℕ) → (leb low c && ltb c (n - low)) ≡ amid n low c
range-is low n c = ap (λ (b : Bool). leb low c && b) (ltb-same c (n - low) (c + low) n (λ h. omega arith) (λ h. omega arith))

-- in the box
pub box-range : {s : Sides} {off : List ℕ} {low : ℕ} → Offsets s off low → (n c : ℕ) → n ≡ cells_of s → amid n low c ≡ inside s c
unfolding inside
box-range o n c e = ap₂ (λ (l m : ℕ). leb l c && ltb (c + l) m) o.lowest e

-- two choices on one test
pub cond-cong : (t u : Bool) (x y z : ℕ) → t ≡ u → (u ≡ true → x ≡ y) → cond t x z ≡ cond u y z
cond-cong t true x y z e f = cond_yes x z e ∙ f refl
cond-cong t false x y z e f = cond_no x z e

-- ---- pass 0

pub opened : (flags marks off out : List ℕ) (low c : ℕ) → length marks ≡ length flags
    → Ranged 0 (λ c. open_mark (get_or flags c 0) (beside_at flags off (c - low) 3)) marks low (length flags - low) out c → length flags - low ≤ c
    → out ≡ tab (length flags) (opened_by flags marks off low)
opened flags marks off out low c m r h =
    ranged-all 0 (λ c. open_mark (get_or flags c 0) (beside_at flags off (c - low) 3)) marks low (length flags - low) out c (length flags) (opened_by flags marks off low) r h m
    (λ j l. ap (λ (b : Bool). cond b (open_mark (get_or flags j 0) (beside_at flags off (j - low) 3)) (get_or marks j 0)) (range-is low (length flags) j))

module _ {s : Sides} {off : List ℕ} {low : ℕ} (o : Offsets s off low) where
  pub beside_same : (bytes : List ℕ) (m c : ℕ) → length bytes ≡ cells_of s → Inner s c → beside_at bytes off (c - low) m ≡ beside_in s bytes m c
  unfolding beside_in
  beside_same bytes m c e g = beside-is o c g bytes 0 m e

  pub opened-box : (flags marks : List ℕ) → length flags ≡ cells_of s → tab (length flags) (opened_by flags marks off low) ≡ tab (cells_of s) (opened_mark s flags marks)
  unfolding opened_mark
  opened-box flags marks e =
      ap (λ (n : ℕ). tab n (opened_by flags marks off low)) e
      ∙ tab-cong (cells_of s) (opened_by flags marks off low) (opened_mark s flags marks) 0
      (λ c h. cond-cong (amid (length flags) low c) (inside s c) _ _ (get_or marks c 0) (box-range o (length flags) c e)
      (λ t. ap (open_mark (get_or flags c 0)) (beside_same flags 3 c e (inside-inner s c t))))
