-- Filled and emptied cells of a flume come to their own: what the pass asks and leaves. Assumes nothing.
use Rattle.std.specs.Prelude.{◌≡◌, cond, List, ℕ, ◌+◌, ◌*◌, ◌≤◌, ◌<◌, ℤ, pos, eqb, length, get_or, set, replicate}
use Rattle.whole.specs.Fold.{tab}
use Rattle.excess.specs.inner.Gifts.{density_at, Parts}
use Rattle.conversion.specs.inner.Settled.{settled_mass, settled_part}
use Rattle.nine.specs.inner.Cells.{part_of9, pasted9}
use Rattle.flumeexcess.specs.inner.Gathered.{RoomOf9}

-- marked cells have parts that can be added up
pub record Settling (parts masses : List ℤ) (marks : List ℕ) : Type 0 where
  pub few : length marks ≤ 262144
  pub parts-there : length parts ≡ 9 * length marks
  pub masses-there : length masses ≡ length marks
  pub each : (c : ℕ) → c < length marks → (get_or marks c 0 ≡ 0 → ⊥) → Parts (RoomOf9 parts) (part_of9 parts) c

-- one marked cell settled: a filled one gets its mass, an emptied one is cleared
pub record CellSettled (m c : ℕ) (parts masses parts' masses' : List ℤ) : Type 0 where
  pub parts_are : parts' ≡ cond (eqb m 1) parts (pasted9 parts c (replicate 19 (pos 0)))
  pub masses-are : masses' ≡ set masses c (cond (eqb m 1) (density_at (part_of9 parts) c) (pos 0))

-- all cells settled, and no mark left: nine parts a cell still, and among the nineteen places they are what stage 6 leaves
pub record Settled (parts masses : List ℤ) (marks : List ℕ) (parts' masses' : List ℤ) (marks' : List ℕ) : Type 0 where
  pub parts-there : length parts' ≡ 9 * length marks
  pub part-is : (c k : ℕ) → c < length marks → k < 19 → part_of9 parts' c k ≡ settled_part (part_of9 parts) marks c k
  pub masses-are : masses' ≡ tab (length marks) (settled_mass (part_of9 parts) masses marks)
  pub marks-are : marks' ≡ replicate (length marks) 0
