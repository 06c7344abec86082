-- Stage 7 of the flume over lent lists: what working out the fills asks. The fills and the test are the box's, with nine stored parts among the nineteen
-- places. Assumes nothing.
use Rattle.std.specs.Prelude.{◌≡◌, List, ℕ, ◌*◌, ◌<◌, ◌≤◌, ℤ, length, get_or}
use Rattle.grid.specs.inner.Fill.{Weighty}
use Rattle.nine.specs.inner.Cells.{part_of9}

-- nine parts and a mass a cell, and every interface cell has a density
pub record Fillable9 (flags : List ℕ) (parts masses : List ℤ) : Type 0 where
  pub few : length flags ≤ 262144
  pub parts-count : length parts ≡ 9 * length flags
  pub masses-count : length masses ≡ length flags
  pub weighty : (c : ℕ) → c < length flags → get_or flags c 3 ≡ 1 → Weighty (part_of9 parts c)
