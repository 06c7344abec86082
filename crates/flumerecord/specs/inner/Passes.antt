-- What the flume's reader holds on the way: a record whose sections, sides and flags passed, and its state in the lent slices. Assumes nothing.
use Rattle.std.specs.Prelude.{◌≡◌, List, ℕ, ◌*◌, ℤ}
use Rattle.grid.specs.Good.{bad_flag}
use Rattle.flume.specs.Flume.{flume_sides_good, flume_grid}
use Rattle.record.specs.inner.Passes.{Shaped}
use Rattle.flumerecord.specs.Layout.{flume_counts}
use Rattle.flumerecord.specs.Reading.{flume_sides_in, flume_cells_in, flume_flag_in, flume_interfaces_in, flume_liquids_in, flume_set_in}

abbrev pub FlumeSound : List ℕ → Type 0
FlumeSound r =
    Shaped r flume_counts 1 (flume_cells_in r) (flume_interfaces_in r) (9 * flume_liquids_in r) (flume_sides_good (flume_sides_in r))
    (bad_flag (flume_grid (flume_sides_in r)) (flume_flag_in r))

pub record FlumeTaken (r : List ℕ) (parts masses : List ℤ) (fills : List ℕ) (carry : List ℤ) : Type 0 where
  pub parts_are : parts ≡ (flume_set_in r).parts
  pub masses-are : masses ≡ (flume_set_in r).masses
  pub fills-are : fills ≡ (flume_set_in r).fills
  pub carry-is : carry ≡ (flume_set_in r).carry
