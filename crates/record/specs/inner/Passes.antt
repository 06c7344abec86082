-- What the reader's passes hold on the way: a cell's numbers by the flags and the places where masses and parts begin. Assumes nothing.
use Rattle.std.specs.Prelude.{◌≡◌, Bool, true, ◌&&◌, List, ℕ, ◌+◌, ◌*◌, ◌≤◌, ◌<◌, ℤ, pos, length, get_or, ◌≤ℤ◌}
use Rattle.whole.specs.Fold.{tab}
use Rattle.whole.specs.laws.Machine.{Within}
use Rattle.lattice.specs.Lattice.{Lattice, d3q19, density}
use Rattle.lattice.specs.Cell.{mass_good}
use Rattle.lattice.specs.Body.{body_good}
use Rattle.grid.specs.Grid.{sides_good, grid_of}
use Rattle.grid.specs.State.{by_flag, liquid, flag_of}
use Rattle.grid.specs.Step.{fill_for}
use Rattle.grid.specs.Good.{bad_flag}
use Rattle.record.specs.Bytes.{i32_at, Held}
use Rattle.record.specs.declared.Counts.{Counts}
use Rattle.record.specs.Places.{counts, settings_from, origin_from, totals_from, cells_from, masses_from, parts_from, length_of}
use Rattle.record.specs.Layout.{interfaces, liquids}
use Rattle.record.specs.Reading.{sides_in, totals_in, cells_in, flag_in, interfaces_in, liquids_in, set_in}

-- a record over any counts whose sections, sides and flags passed, with no byte past its end: k numbers in section 4, n flags, i masses, m parts
pub record Shaped (r : List ℕ) (K : Counts) (k n i m : ℕ) (good : Bool) (bad : ℕ) : Type 0 where
  pub first : Held r 0 K.sides 4
  pub sides : good ≡ true
  pub settings : Held r (settings_from K) K.settings 4
  pub origin : Held r (origin_from K) K.origin 8
  pub totals : Held r (totals_from K) k 8
  pub flags : Held r (cells_from K k) n 1
  pub tested : n ≤ bad
  pub masses : Held r (masses_from K k n) i 4
  pub parts : Held r (parts_from K k n i) m 4
  pub end : length r ≤ length_of K k n i m

abbrev pub Sound : List ℕ → Type 0
Sound r = Shaped r counts (totals_in r) (cells_in r) (interfaces_in r) (19 * liquids_in r) (sides_good (sides_in r)) (bad_flag (grid_of (sides_in r)) (flag_in r))

-- the mass of an interface cell, and the parts of a liquid one
abbrev pub held_mass : List ℕ → List ℕ → ℕ → ℕ → ℤ
held_mass rec flags from c = i32_at rec (from + 4 * interfaces c (flag_of flags))

abbrev pub part_held : ℕ → List ℕ → List ℕ → ℕ → ℕ → ℕ → ℤ
part_held w rec flags from c k = i32_at rec (from + 4 * (w * liquids c (flag_of flags) + k))

abbrev pub held_part : List ℕ → List ℕ → ℕ → ℕ → ℕ → ℤ
held_part = part_held 19

-- test 6 of one cell, of which only the record's own numbers can break a rule
unfoldable pub fair_of : Lattice → ℕ → ℤ → (ℕ → ℤ) → Bool
fair_of L flag m f = by_flag flag true (body_good L f && mass_good m) (body_good L f) true

-- ---- over any lattice: w parts a cell, laid out by cell
module _ (L : Lattice) (w : ℕ) where
  abbrev pub density_of : List ℤ → ℕ → ℤ
  density_of parts c = density L (λ k. get_or parts (w * c + k) (pos 0))

  -- liquid cells have a density that 32 bits hold, and interface cells one to divide by
  pub record Heavy (flags : List ℕ) (parts : List ℤ) : Type 0 where
    pub inside : (c : ℕ) → c < length flags → liquid (flag_of flags c) ≡ true → (k : ℕ) → k < w → Within (get_or parts (w * c + k) (pos 0)) 1179648
    pub heavy : (c : ℕ) → c < length flags → flag_of flags c ≡ 1 → pos 294912 ≤ℤ density_of parts c

  -- a cell's mass by its flag, and its fill worked out
  unfoldable pub mass_loaded : List ℕ → List ℕ → ℕ → List ℤ → ℕ → ℤ
  mass_loaded rec flags from parts c = by_flag (flag_of flags c) (pos 0) (held_mass rec flags from c) (density_of parts c) (pos 0)

  unfoldable pub fill_loaded : List ℕ → List ℕ → ℕ → List ℤ → ℕ → ℕ
  fill_loaded rec flags from parts c = fill_for (flag_of flags c) (mass_loaded rec flags from parts c) (density_of parts c)

  pub record LoadedBy (rec flags : List ℕ) (from : ℕ) (parts masses : List ℤ) (fills : List ℕ) : Type 0 where
    pub masses-are : masses ≡ tab (length flags) (mass_loaded rec flags from parts)
    pub fills-are : fills ≡ tab (length flags) (fill_loaded rec flags from parts)

  unfoldable pub fair_held : List ℕ → List ℕ → ℕ → ℕ → ℕ → Bool
  fair_held rec flags masses parts c = fair_of L (flag_of flags c) (held_mass rec flags masses c) (part_held w rec flags parts c)

-- the box's
abbrev pub Weighed : List ℕ → List ℤ → Type 0
Weighed = Heavy d3q19 19

abbrev pub loaded_mass : List ℕ → List ℕ → ℕ → List ℤ → ℕ → ℤ
loaded_mass = mass_loaded d3q19 19

abbrev pub loaded_fill : List ℕ → List ℕ → ℕ → List ℤ → ℕ → ℕ
loaded_fill = fill_loaded d3q19 19

abbrev pub Loaded : List ℕ → List ℕ → ℕ → List ℤ → List ℤ → List ℕ → Type 0
Loaded = LoadedBy d3q19 19

abbrev pub fair_by : ℕ → ℤ → (ℕ → ℤ) → Bool
fair_by = fair_of d3q19

abbrev pub fair_at : List ℕ → List ℕ → ℕ → ℕ → ℕ → Bool
fair_at = fair_held d3q19 19

-- the state of a record in the lent slices
pub record Taken (r : List ℕ) (parts masses : List ℤ) (fills : List ℕ) (carry : List ℤ) : Type 0 where
  pub parts_are : parts ≡ (set_in r).parts
  pub masses-are : masses ≡ (set_in r).masses
  pub fills-are : fills ≡ (set_in r).fills
  pub carry-is : carry ≡ (set_in r).carry

-- names every definition of this file: whoever unfolds this computes with all of them
unfoldable pub open-passes : Unit {0}
unfolding mass_loaded fill_loaded fair_of fair_held
open-passes = tt
