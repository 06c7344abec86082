-- Stage 7 over lent lists: what working out the fills asks, the fill of each cell, and the one rule of a good state that this pass tests. Assumes nothing.
use Rattle.std.specs.Prelude.{◌≡◌, Bool, not, ◌||◌, List, ℕ, ◌*◌, ◌<◌, ◌≤◌, ℤ, pos, eqb, length, get_or}
use Rattle.whole.specs.Fold.{tab, all}
use Rattle.lattice.specs.Lattice.{d3q19, density}
use Rattle.lattice.specs.Cell.{mass_good}
use Rattle.grid.specs.State.{by_flag, part_of}
use Rattle.grid.specs.Step.{fill_for}
use Rattle.grid.specs.inner.Fill.{Weighty}

-- nineteen parts and a mass a cell, and every interface cell has a density
pub record Fillable (flags : List ℕ) (parts masses : List ℤ) : Type 0 where
  pub few : length flags ≤ 262144
  pub parts-count : length parts ≡ 19 * length flags
  pub masses-count : length masses ≡ length flags
  pub weighty : (c : ℕ) → c < length flags → get_or flags c 3 ≡ 1 → Weighty (part_of parts c)

-- a cell's fill
unfoldable pub fill_at : List ℕ → (ℕ → ℕ → ℤ) → List ℤ → ℕ → ℕ
fill_at flags part masses c = fill_for (get_or flags c 3) (get_or masses c (pos 0)) (density d3q19 (part c))

-- the fill by the flag alone: right wherever the cell is not interface
unfoldable pub plain_fill : ℕ → ℕ
plain_fill f = by_flag f 0 0 65536 0

unfoldable pub plain_at : List ℕ → ℕ → ℕ
plain_at flags c = plain_fill (get_or flags c 0)

-- a mass that a cell of flag f may have: an interface cell's is in its range
unfoldable pub fair_mass : ℕ → ℤ → Bool
fair_mass f m = not (eqb f 1) || mass_good m

unfoldable pub fair_at : List ℕ → List ℤ → ℕ → Bool
fair_at flags masses c = fair_mass (get_or flags c 3) (get_or masses c (pos 0))

-- what the pass leaves: every cell's fill, and whether every interface cell's mass is in its range
pub record Refilled (flags : List ℕ) (part : ℕ → ℕ → ℤ) (masses : List ℤ) (fills : List ℕ) (fair : Bool) : Type 0 where
  pub fills-are : fills ≡ tab (length flags) (fill_at flags part masses)
  pub fair-is : fair ≡ all (length flags) (fair_at flags masses)
