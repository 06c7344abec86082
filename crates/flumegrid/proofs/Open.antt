-- Flags of a flume that passed test 4: a cell that is not wall has all its neighbours in the grid. So test 5 by offsets is test 5's place. Assumes nothing.
use borrow.Author.Tests.{eqb-true, not-false}
use mathlib.Core.Path.{◌≡◌, refl, sym, ap, ap₂, ◌∙◌, subst}
use mathlib.Core.Bool.{Bool, true, false, ◌&&◌, not, ◌||◌}
use mathlib.Core.List.{List}
use Prim.Native.Nat.{ℕ, suc, ◌+◌, ◌-◌, ◌<◌}
use native.Mathlib.Omega.{arith}
use lib.Dec.{ltb, eqb}
use lib.ListN.{length, get_or}
use Rattle.whole.specs.laws.Bools.{and_right, where-then, never}
use Rattle.whole.specs.Fold.{first, any_dir, tab}
use Rattle.whole.specs.laws.Search.{first-none, first_cong, any-cong}
use Rattle.grid.specs.Grid.{flume}
use Rattle.grid.specs.Good.{flag_good, bad_flag, bad_fluid, open_fluid}
use Rattle.grid.specs.inner.Passes.{Amid, Reaching, beside_at, open_at, open_place, Embedded}
use Rattle.grid.specs.State.{flag_of}
use Rattle.grid.proofs.Lists.{get_or-there}
use Rattle.flume.specs.declared.FlumeSides.{FlumeSides}
use Rattle.flume.specs.Flume.{flume_cells, flume_grid}
use Rattle.flume.specs.inner.Offsets.{flume_low, flume_offset}
use Rattle.flume.proofs.Bridge.{bad-fluid-same}
use Rattle.flumegrid.specs.inner.Layer.{FlumeFlagged}
use Rattle.flumegrid.proofs.Offsets.{wide_grid, place_is, place-low, reaching, inner_of}

-- ---- a neighbour's byte is m: what a loop by offsets finds is what the grid's neighbours have
module _ (s : FlumeSides) (c : ℕ) (g : Amid (flume_cells s) (flume_low s) c) (bytes : List ℕ) (e : length bytes ≡ flume_cells s) where
  abbrev off : List ℕ
  off = tab 19 (flume_offset s)

  pub byte-is : (d i : ℕ) → i < 19 → get_or bytes (c - flume_low s + get_or off i 0) 0 ≡ get_or bytes ((wide_grid s).near c i) d
  byte-is d i h =
      get_or-there bytes (c - flume_low s + get_or off i 0) 0 d (subst (λ (m : ℕ). c - flume_low s + get_or off i 0 < m) (sym e) (place-low s c i g h))
      ∙ ap (λ (m : ℕ). get_or bytes m d) (place_is s c i g h)

  pub beside-is : (d m : ℕ) → beside_at bytes off (c - flume_low s) m ≡ any_dir 18 (λ i. eqb (get_or bytes ((wide_grid s).near c i) d) m)
  unfolding beside_at
  beside-is d m =
      any-cong 18 (λ a. eqb (get_or bytes (c - flume_low s + get_or off (suc a) 0) 0) m) (λ a. eqb (get_or bytes ((wide_grid s).near c (suc a)) d) m)
      (λ a h. ap (λ (x : ℕ). eqb x m) (byte-is d (suc a) (omega arith)))

-- ---- flags that passed test 4
module _ {s : FlumeSides} {flags : List ℕ} (w : FlumeFlagged s flags) where
  module _ (c : ℕ) (h : c < flume_cells s) where
    good : flag_good (flume_grid s) (flag_of flags) c ≡ true
    unfolding bad_flag flume_grid flume flume_cells
    good =
        not-false (flag_good (flume_grid s) (flag_of flags) c)
        (first-none (flume_cells s) (λ c. not (flag_good (flume_grid s) (flag_of flags) c)) w.tested c h)

    pub inner : (get_or flags c 0 ≡ 3 → ⊥) → Amid (flume_cells s) (flume_low s) c
    unfolding flag_good
    inner f =
        inner_of s w.sides c h
        (never ((flume_grid s).outer c) (λ o. f (get_or-there flags c 0 3 (omega (arith, w.count))
        ∙ eqb-true (flag_of flags c) 3 (where-then ((flume_grid s).outer c) (eqb (flag_of flags c) 3) (and_right (ltb (flag_of flags c) 4) (not ((flume_grid s).outer c) || eqb (flag_of flags c) 3) good) o))))

    test : open_at flags (tab 19 (flume_offset s)) (flume_low s) c ≡ open_fluid 18 (wide_grid s) (flag_of flags) c
    unfolding open_fluid
    test = by (eqb (get_or flags c 0) 2) refl
      where
        k : c < length flags
        k = omega (arith, w.count)

        by : (b : Bool) → eqb (get_or flags c 0) 2 ≡ b
            → open_at flags (tab 19 (flume_offset s)) (flume_low s) c ≡ (eqb (flag_of flags c) 2 && any_dir 18 (λ i. eqb (flag_of flags ((wide_grid s).near c i)) 0))
        by true e =
            ap₂ (λ (x y : Bool). x && y) (ap (λ (f : ℕ). eqb f 2) (get_or-there flags c 0 3 k))
            (beside-is s c (inner (λ t. absurd (omega (arith, eqb-true (get_or flags c 0) 2 e)))) flags w.count 3 0)
        by false e =
            ap (λ (b : Bool). b && beside_at flags (tab 19 (flume_offset s)) (c - flume_low s) 0) e
            ∙ sym (ap (λ (b : Bool). b && any_dir 18 (λ i. eqb (flag_of flags ((wide_grid s).near c i)) 0)) (ap (λ (f : ℕ). eqb f 2) (get_or-there flags c 3 0 k) ∙ e))

  wide-open : open_place flags (tab 19 (flume_offset s)) (flume_low s) ≡ bad_fluid 18 (wide_grid s) (flag_of flags)
  unfolding open_place bad_fluid flume_grid flume flume_cells
  wide-open =
      ap (λ (n : ℕ). first n (open_at flags (tab 19 (flume_offset s)) (flume_low s))) w.count
      ∙ first_cong (flume_cells s) 0 (open_at flags (tab 19 (flume_offset s)) (flume_low s)) (open_fluid 18 (wide_grid s) (flag_of flags)) (λ a h. test (0 + a) (omega arith))

  here : open_place flags (tab 19 (flume_offset s)) (flume_low s) ≡ bad_fluid 8 (flume_grid s) (flag_of flags)
  here = wide-open ∙ bad-fluid-same (flume_grid s) (flag_of flags)

  asked : Embedded flags (tab 19 (flume_offset s)) (flume_low s)
  asked = record {
    reaching = subst (λ (n : ℕ). Reaching n (tab 19 (flume_offset s)) (flume_low s)) (sym w.count) (reaching s w.sides);
    fluid = λ c h e. subst (λ (n : ℕ). Amid n (flume_low s) c) (sym w.count) (inner c (omega (arith, w.count)) (λ t. absurd (omega arith)));
  }

  -- by an array of these offsets
  module _ (off : List ℕ) (low : ℕ) (e : off ≡ tab 19 (flume_offset s)) (l : low ≡ flume_low s) where
    pub open-flume : open_place flags off low ≡ bad_fluid 8 (flume_grid s) (flag_of flags)
    open-flume = ap₂ (open_place flags) e l ∙ here

    pub embedded : Embedded flags off low
    embedded = rw (e, l) asked
