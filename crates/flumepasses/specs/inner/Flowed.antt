-- Pass 1 over all cells of a flume: what it asks, and what it leaves. Assumes nothing.
use Rattle.std.specs.Prelude.{◌≡◌, Bool, true, List, [], ℕ, ◌*◌, ◌<◌, ℤ, pos, length, get_or, Result, Ok, Err}
use Rattle.whole.specs.Fold.{first, Dir}
use Rattle.lattice.specs.declared.Settings.{Settings}
use Rattle.grid.specs.State.{Lent, lent, Scene, liquid}
use Rattle.grid.specs.Step.{unsteady}
use Rattle.grid.specs.Mode.{scene_by}
use Rattle.passes.specs.declared.passing.Found.{Found}
use Rattle.passes.specs.inner.Flowed.{MovedTo}
use Rattle.flume.specs.declared.FlumeSides.{FlumeSides}
use Rattle.flume.specs.declared.FlumeSettings.{FlumeSettings}
use Rattle.flume.specs.Flume.{flume_cells, flume_grid}
use Rattle.flume.specs.inner.Spread.{spread_lattice, spread_grid}
use Rattle.nine.specs.inner.Cells.{part_of9}
use Rattle.flumegrid.specs.inner.Ready.{FlumePoised, FlumeDried}

-- the flume's settings that a box's with gy = 0 are
abbrev pub along_settings : Settings → FlumeSettings
along_settings g = record { p = g.p; gx = g.gx; gz = g.gz; turbulent = g.turbulent }

-- the step's scene of a set among the nineteen places: the flume's own scene, spread (proofs/Poise.antt)
abbrev pub wide_scene : FlumeSides → Settings → Lent → Scene
wide_scene s g a =
    scene_by spread_lattice (spread_grid (flume_grid s))
    (record { flag = λ c. get_or a.flags c 3; part = part_of9 a.parts; mass = λ c. get_or a.masses c (pos 0); fill = λ c. get_or a.fills c 0; carry = get_or a.carry 0 (pos 0) }) g

-- a set that is poised, room of the right lengths whose flags tell where its parts are 0 already, and pass 0's marks: a liquid cell that is marked is fluid, and all its
-- neighbours are liquid. The pass is not lent the carry, which no stage before the last sum of stage 6 reads
pub record FlumeFlowable (s : FlumeSides) (g : Settings) (flags : List ℕ) (parts masses : List ℤ) (fills flags2 : List ℕ) (parts2 masses2 : List ℤ) (marks : List ℕ) : Type 0 where
  pub poised : FlumePoised s (along_settings g) (lent flags parts masses fills [])
  pub level : g.gy ≡ pos 0
  pub flags-room : length flags2 ≡ flume_cells s
  pub dried : FlumeDried s flags2 parts2
  pub parts-room : length parts2 ≡ 9 * flume_cells s
  pub masses-room : length masses2 ≡ flume_cells s
  pub marks-room : length marks ≡ flume_cells s
  pub marked-fluid : (c : ℕ) → c < flume_cells s → liquid (get_or flags c 3) ≡ true → get_or marks c 0 ≡ 1 → get_or flags c 3 ≡ 2
  pub marked : (c : ℕ) → c < flume_cells s → liquid (get_or flags c 3) ≡ true → get_or marks c 0 ≡ 1
      → (k : ℕ) → Dir 8 k → liquid (get_or flags ((flume_grid s).near c k) 3) ≡ true

-- the lowest cell that is unsteady, or all of stages 1 to 4; the lengths are kept in either case
pub data FlumeWent (T : Scene) (n : ℕ) : Result Found ℕ → List ℤ → List ℤ → List ℕ → Type 0 where
  stopped : {c : ℕ} {parts masses : List ℤ} {marks : List ℕ} → c < n → first n (unsteady T) ≡ c → FlumeWent T n (Err c) parts masses marks
  through : {found : Found} {parts masses : List ℤ} {marks : List ℕ} → MovedTo T n (part_of9 parts) masses marks found.fair found.calm
      → FlumeWent T n (Ok found) parts masses marks

pub record FlumeFlowed (s : FlumeSides) (g : Settings) (flags : List ℕ) (parts masses : List ℤ) (fills : List ℕ) (r : Result Found ℕ) (parts2 masses2 : List ℤ) (marks : List ℕ) : Type 0 where
  pub went : FlumeWent (wide_scene s g (lent flags parts masses fills [])) (flume_cells s) r parts2 masses2 marks
  pub parts-kept : length parts2 ≡ 9 * flume_cells s
  pub masses-kept : length masses2 ≡ flume_cells s
  pub marks-kept : length marks ≡ flume_cells s
