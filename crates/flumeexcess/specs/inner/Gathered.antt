-- Stage 6 of the flume over the lists that its functions are lent. Gifts and what strays are the box's formulas with nine stored parts among
-- the nineteen places; here stands what the passes ask of the lists. Assumes nothing.
use Rattle.std.specs.Prelude.{◌≡◌, List, ℕ, ◌+◌, ◌*◌, ◌≤◌, ◌<◌, ℤ, pos, length, get_or}
use Rattle.whole.specs.laws.Machine.{Within}
use Rattle.grid.specs.inner.Sight.{Around}
use Rattle.excess.specs.inner.Gifts.{Weighed, Giving}
use Rattle.nine.specs.inner.Cells.{part_of9}

-- the list holds the nine parts of cell c
abbrev pub RoomOf9 : List ℤ → ℕ → Type 0
RoomOf9 parts c = 9 * c + 9 ≤ length parts

-- what the pass that gathers asks: marked cells can give, and masses of takers are in range
pub record Gathering (flags fills : List ℕ) (parts masses : List ℤ) (marks off : List ℕ) (low : ℕ) : Type 0 where
  pub giving : Giving flags fills (RoomOf9 parts) (part_of9 parts) masses marks off low
  pub taken : (c : ℕ) → c < length flags → get_or flags c 0 ≡ 1 → Within (get_or masses c (pos 0)) 44826624

-- what the pass that works out the carry asks: marked cells are weighed, with flags all round
pub record Straying (flags : List ℕ) (parts masses : List ℤ) (marks off : List ℕ) (low : ℕ) : Type 0 where
  pub few : length flags ≤ 262144
  pub marks-there : length marks ≡ length flags
  pub around : (c : ℕ) → c < length flags → (get_or marks c 0 ≡ 0 → ⊥) → Around (length flags) off low c
  pub weighed : (c : ℕ) → c < length flags → (get_or marks c 0 ≡ 0 → ⊥) → Weighed (RoomOf9 parts) (part_of9 parts) masses c
