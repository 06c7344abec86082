-- Pass 1 over all cells: what it asks, and what it leaves. Assumes nothing.
use Rattle.std.specs.Prelude.{◌≡◌, Bool, true, List, [], ℕ, ◌*◌, ◌≤◌, ◌<◌, ℤ, length, get_or, Result, Ok, Err}
use Rattle.whole.specs.Fold.{tab, first, Dir}
use Rattle.lattice.specs.Lattice.{d3q19}
use Rattle.lattice.specs.Body.{body_good}
use Rattle.lattice.specs.declared.Settings.{Settings}
use Rattle.grid.specs.declared.Sides.{Sides}
use Rattle.grid.specs.Grid.{cells_of, grid_of}
use Rattle.grid.specs.State.{lent, Scene, liquid}
use Rattle.grid.specs.Step.{flag_at, unsteady, collided}
use Rattle.grid.specs.Outcome.{scene_of}
use Rattle.grid.specs.inner.Between.{Poised, moved_part, moved_mass, first_mark}
use Rattle.grid.specs.inner.Halfway.{Dried, Moved}
use Rattle.passes.specs.declared.passing.Found.{Found}

-- a set that is poised, room of the right lengths whose flags tell where its parts are 0 already, and pass 0's marks: a liquid cell that is marked is fluid, and all its
-- neighbours are liquid. The pass is not lent the carry, which no stage before the last sum of stage 6 reads
pub record Flowable (s : Sides) (g : Settings) (flags : List ℕ) (parts masses : List ℤ) (fills flags2 : List ℕ) (parts2 masses2 : List ℤ) (marks : List ℕ) : Type 0 where
  pub poised : Poised s g (lent flags parts masses fills [])
  pub flags-room : length flags2 ≡ cells_of s
  pub dried : Dried flags2 parts2
  pub parts-room : length parts2 ≡ 19 * cells_of s
  pub masses-room : length masses2 ≡ cells_of s
  pub marks-room : length marks ≡ cells_of s
  pub marked-fluid : (c : ℕ) → c < cells_of s → liquid (get_or flags c 3) ≡ true → get_or marks c 0 ≡ 1 → get_or flags c 3 ≡ 2
  pub marked : (c : ℕ) → c < cells_of s → liquid (get_or flags c 3) ≡ true → get_or marks c 0 ≡ 1
      → (i : ℕ) → Dir 18 i → liquid (get_or flags ((grid_of s).near c i) 3) ≡ true

-- stages 1 to 4 are made, as the box's Moved has it, over any parts
pub record MovedTo (S : Scene) (n : ℕ) (part : ℕ → ℕ → ℤ) (masses : List ℤ) (marks : List ℕ) (fair calm : Bool) : Type 0 where
  pub steady : n ≤ first n (unsteady S)
  pub part-is : (c k : ℕ) → c < n → k < 19 → part c k ≡ moved_part S c k
  pub masses-are : masses ≡ tab n (moved_mass S)
  pub marks-are : marks ≡ tab n (first_mark S)
  pub fair-tells : fair ≡ true → (c : ℕ) → c < n → liquid (flag_at S c) ≡ true → body_good d3q19 (collided S c) ≡ true
  pub calm-tells : calm ≡ true → (c : ℕ) → c < n → first_mark S c ≡ 0

-- the lowest cell that is unsteady, or all of stages 1 to 4; the lengths are kept in either case
pub data Went (S : Scene) (n : ℕ) : Result Found ℕ → List ℤ → List ℤ → List ℕ → Type 0 where
  stopped : {c : ℕ} {parts masses : List ℤ} {marks : List ℕ} → c < n → first n (unsteady S) ≡ c → Went S n (Err c) parts masses marks
  through : {found : Found} {parts masses : List ℤ} {marks : List ℕ} → Moved S n parts masses marks found.fair found.calm → Went S n (Ok found) parts masses marks

pub record Flowed (s : Sides) (g : Settings) (flags : List ℕ) (parts masses : List ℤ) (fills : List ℕ) (r : Result Found ℕ) (parts2 masses2 : List ℤ) (marks : List ℕ) : Type 0 where
  pub went : Went (scene_of s g (lent flags parts masses fills [])) (cells_of s) r parts2 masses2 marks
  pub parts-kept : length parts2 ≡ 19 * cells_of s
  pub masses-kept : length masses2 ≡ cells_of s
  pub marks-kept : length marks ≡ cells_of s
