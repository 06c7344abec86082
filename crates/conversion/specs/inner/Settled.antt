-- Filled and emptied cells come to their own: what the pass asks and leaves. Assumes nothing.
use Rattle.std.specs.Prelude.{◌≡◌, cond, List, ℕ, ◌+◌, ◌-◌, ◌*◌, ◌/◌, ◌%◌, ◌≤◌, ◌<◌, ℤ, pos, ◌+ℤ◌, ◌-ℤ◌, eqb, length, get_or, set, replicate}
use Rattle.whole.specs.Fold.{tab}
use Rattle.grid.specs.State.{part_of}
use Rattle.grid.specs.inner.Pasted.{pasted}
use Rattle.excess.specs.inner.Gifts.{density_at, Parts, RoomOf}

unfoldable pub settled_mass : (ℕ → ℕ → ℤ) → List ℤ → List ℕ → ℕ → ℤ
settled_mass part masses marks c =
    cond (eqb (get_or marks c 0) 0) (get_or masses c (pos 0)) (cond (eqb (get_or marks c 0) 1) (density_at part c) (pos 0))

unfoldable pub settled_part : (ℕ → ℕ → ℤ) → List ℕ → ℕ → ℕ → ℤ
settled_part part marks c k =
    cond (eqb (get_or marks c 0) 0) (part c k) (cond (eqb (get_or marks c 0) 1) (part c k) (pos 0))

-- marked cells have parts that can be added up
pub record Settling (parts masses : List ℤ) (marks : List ℕ) : Type 0 where
  pub few : length marks ≤ 262144
  pub parts-there : length parts ≡ 19 * length marks
  pub masses-there : length masses ≡ length marks
  pub each : (c : ℕ) → c < length marks → (get_or marks c 0 ≡ 0 → ⊥) → Parts (RoomOf parts) (part_of parts) c

-- one marked cell settled: a filled one gets its mass, an emptied one is cleared
pub record CellSettled (m c : ℕ) (parts masses parts' masses' : List ℤ) : Type 0 where
  pub parts_are : parts' ≡ cond (eqb m 1) parts (pasted parts (19 * c) (replicate 19 (pos 0)))
  pub masses-are : masses' ≡ set masses c (cond (eqb m 1) (density_at (part_of parts) c) (pos 0))

-- all cells settled, and no mark left
pub record Settled (parts masses : List ℤ) (marks : List ℕ) (parts' masses' : List ℤ) (marks' : List ℕ) : Type 0 where
  pub parts_are : parts' ≡ tab (19 * length marks) (λ m. settled_part (part_of parts) marks (m / 19) (m % 19))
  pub masses-are : masses' ≡ tab (length marks) (settled_mass (part_of parts) masses marks)
  pub marks-are : marks' ≡ replicate (length marks) 0
