-- What the passes of a flume's step ask of its first set: tests 1 to 6 have passed. Assumes nothing.
use Rattle.std.specs.Prelude.{◌≡◌, true, false, List, ℕ, ◌*◌, ◌<◌, ℤ, pos, length, get_or}
use Rattle.lattice.specs.Lattice.{d2q9}
use Rattle.grid.specs.Answer.{Done}
use Rattle.grid.specs.State.{Lent, liquid, state_of}
use Rattle.grid.specs.Good.{cell_good}
use Rattle.grid.specs.Outcome.{settings_good, good_answer}
use Rattle.grid.specs.Demands.{Walled, Closed}
use Rattle.flume.specs.declared.FlumeSides.{FlumeSides}
use Rattle.flume.specs.declared.FlumeSettings.{FlumeSettings}
use Rattle.flume.specs.Flume.{flume_sides_good, flume_cells, flume_grid, level_settings}
use Rattle.nine.specs.inner.Cells.{part_of9}

-- a set's slices are of their exact lengths
pub record FlumeSized (n : ℕ) (a : Lent) : Type 0 where
  pub flags : length a.flags ≡ n
  pub parts : length a.parts ≡ 9 * n
  pub masses : length a.masses ≡ n
  pub fills : length a.fills ≡ n
  pub carry : length a.carry ≡ 1

pub record FlumeReady (s : FlumeSides) (g : FlumeSettings) (a : Lent) : Type 0 where
  pub sides : flume_sides_good s ≡ true
  pub sized : FlumeSized (flume_cells s) a
  pub settings : settings_good (level_settings g) ≡ true
  pub good : good_answer d2q9 (flume_grid s) (state_of 8 a) Done ≡ Done

-- and of what it writes: a second set and marks of their exact lengths
pub record FlumeEntered (s : FlumeSides) (g : FlumeSettings) (a b : Lent) (marks : List ℕ) : Type 0 where
  pub ready : FlumeReady s g a
  pub second : FlumeSized (flume_cells s) b
  pub marks-room : length marks ≡ flume_cells s

-- where a set's flag is dry its parts are 0: so it is in a good state; of a set whose flags are all 1 it says nothing
abbrev pub FlumeDried : FlumeSides → List ℕ → List ℤ → Type 0
FlumeDried s flags parts = (c k : ℕ) → c < flume_cells s → k < 19 → liquid (get_or flags c 3) ≡ false → part_of9 parts c k ≡ pos 0

-- what a step within a run asks besides: the flags of the set that it writes tell where parts are 0 already
pub record FlumeResuming (s : FlumeSides) (g : FlumeSettings) (a b : Lent) (marks : List ℕ) : Type 0 where
  pub entered : FlumeEntered s g a b marks
  pub dried : FlumeDried s b.flags b.parts

-- FlumeReady cell by cell and without the carry: what a pass over all cells asks
pub record FlumePoised (s : FlumeSides) (g : FlumeSettings) (a : Lent) : Type 0 where
  pub sides : flume_sides_good s ≡ true
  pub settings : settings_good (level_settings g) ≡ true
  pub flags : length a.flags ≡ flume_cells s
  pub parts : length a.parts ≡ 9 * flume_cells s
  pub masses : length a.masses ≡ flume_cells s
  pub fills : length a.fills ≡ flume_cells s
  pub flagged : (c : ℕ) → c < flume_cells s → (state_of 8 a).flag c < 4
  pub walled : Walled (flume_grid s) (state_of 8 a).flag
  pub closed : Closed 8 (flume_grid s) (state_of 8 a).flag
  pub cells : (c : ℕ) → c < flume_cells s → cell_good d2q9 (state_of 8 a) c ≡ true
