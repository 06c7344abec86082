-- Rows of a flume: cell x of the row that begins at nx·z stands at x, z, so its test is the rule's; and the next row begins where it ends. Assumes nothing.
use mathlib.Core.Path.{◌≡◌, sym, ap, ap₂, ◌∙◌, subst}
use mathlib.Core.Bool.{Bool, true, false, not, ◌&&◌, ◌||◌}
use mathlib.Core.List.{List}
use Prim.Native.Nat.{ℕ, ◌+◌, ◌-◌, ◌*◌, ◌/◌, ◌%◌, ◌≤◌, ◌<◌}
use native.Mathlib.Nat.{mod-eq_of_lt, div-eq_of_lt, add-mul-div_left, add-mul-mod_self_left, mul-le-mul_left}
use native.Mathlib.Omega.{arith}
use native.Mathlib.Decide.{dec_lt}
use lib.Dec.{ltb, eqb}
use lib.ListN.{length, get_or}
use Rattle.whole.specs.laws.Search.{first-is, first-all}
use Rattle.grid.specs.Grid.{at_end, flume}
use Rattle.grid.specs.Good.{flag_good, bad_flag}
use Rattle.grid.proofs.Lists.{get_or-there}
use Rattle.flume.specs.declared.FlumeSides.{FlumeSides}
use Rattle.flume.specs.Flume.{flume_cells, flume_grid}
use Rattle.flumegrid.specs.inner.Layer.{edge, bad_at, Row}

module _ (s : FlumeSides) (c z x : ℕ) (r : Row s c z) (h : x < s.nx) where
  at : c + x ≡ x + s.nx * z
  at = omega (arith, r.starts)

  x-of : (c + x) % s.nx ≡ x
  x-of = ap (λ (m : ℕ). m % s.nx) at ∙ add-mul-mod_self_left x s.nx z ∙ mod-eq_of_lt h

  z-of : (c + x) / s.nx ≡ z
  z-of =
      ap (λ (m : ℕ). m / s.nx) at ∙ add-mul-div_left x z (omega arith)
      ∙ ap (λ (m : ℕ). m + z) (div-eq_of_lt h)
      ∙ omega arith

  outer-at : (flume_grid s).outer (c + x) ≡ edge s x z
  unfolding flume_grid flume edge
  outer-at = ap₂ (λ (m n : ℕ). at_end s.nx m || at_end s.nz n) x-of z-of

  -- it is a cell
  pub row-cell : c + x < flume_cells s
  unfolding flume_cells
  row-cell = omega (arith, r.starts, mul-le-mul_left s.nx r.high)

  -- the test of one cell is the rule's
  pub tested : (flags : List ℕ) → length flags ≡ flume_cells s
      → not (ltb (get_or flags (c + x) 0) 4 && (not (edge s x z) || eqb (get_or flags (c + x) 0) 3)) ≡ bad_at s flags (c + x)
  unfolding flag_good
  tested flags e =
      ap₂ (λ (f : ℕ) (o : Bool). not (ltb f 4 && (not o || eqb f 3)))
      (get_or-there flags (c + x) 0 3 (subst (λ (n : ℕ). c + x < n) (sym e) row-cell)) (sym outer-at)

-- the row ends in the grid
pub row_room : (s : FlumeSides) (c z : ℕ) → Row s c z → c + s.nx ≤ flume_cells s
unfolding flume_cells
row_room s c z r = omega (arith, r.starts, mul-le-mul_left s.nx r.high)

-- test 4's place: the first cell that breaks the rule
pub found : (s : FlumeSides) (flags : List ℕ) (c : ℕ) → c < flume_cells s → ((k : ℕ) → k < c → bad_at s flags k ≡ false) → bad_at s flags c ≡ true
    → c ≡ bad_flag (flume_grid s) (λ c. get_or flags c 3)
unfolding bad_flag flume_grid flume flume_cells
found s flags c h low t = sym (first-is (flume_cells s) (bad_at s flags) c h low t)

pub none_found : (s : FlumeSides) (flags : List ℕ) (c : ℕ) → c ≡ flume_cells s → ((k : ℕ) → k < c → bad_at s flags k ≡ false)
    → c ≡ bad_flag (flume_grid s) (λ c. get_or flags c 3)
unfolding bad_flag flume_grid flume flume_cells
none_found s flags c e low = sym (first-all (flume_cells s) (bad_at s flags) (λ k l. low k (omega (arith, e))) ∙ sym e)

-- what the rows before and the row's first cells give together
pub passed : (f : ℕ → Bool) (c x : ℕ) → ((k : ℕ) → k < c → f k ≡ false) → ((k : ℕ) → k < x → f (c + k) ≡ false)
    → (k : ℕ) → k < c + x → f k ≡ false
passed f c x before within k h = by (dec_lt k c)
  where
    by : Dec (k < c) → f k ≡ false
    by (yes l) = before k l
    by (no n) =
        let e : c + (k - c) ≡ k = omega arith in
        subst (λ (m : ℕ). f m ≡ false) e (within (k - c) (omega arith))
