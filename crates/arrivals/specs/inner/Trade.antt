-- Stage 2 of one cell over lent lists: what the trade of mass asks, and what passes between two cells. Assumes nothing.
use Rattle.std.specs.Prelude.{◌≡◌, List, ℕ, ◌+◌, ◌<◌, ◌≤◌, ℤ, pos, ◌-ℤ◌, length, get_or}
use Rattle.whole.specs.laws.Machine.{Within}
use Rattle.lattice.specs.Cell.{exchange}
use Rattle.grid.specs.State.{by_flag}
use Rattle.grid.specs.inner.Sight.{Bodies}

-- a fill a cell, and none above 65,536
pub record Fills (flags fills : List ℕ) : Type 0 where
  pub count : length fills ≡ length flags
  pub low : (c : ℕ) → c < length flags → get_or fills c 0 ≤ 65536

-- a mass a cell, and each interface cell's is in its range
pub record Masses (flags : List ℕ) (masses : List ℤ) : Type 0 where
  pub count : length masses ≡ length flags
  pub low : (c : ℕ) → c < length flags → get_or flags c 3 ≡ 1 → Within (get_or masses c (pos 0)) 2359296

-- what the trade of any cell reads
pub record Trading (flags : List ℕ) (part : ℕ → ℕ → ℤ) (masses : List ℤ) (fills : List ℕ) : Type 0 where
  pub bodies : Bodies flags part
  pub masses-good : Masses flags masses
  pub fills-good : Fills flags fills

-- d: part k of cell b less part i of cell c
abbrev pub apart : (ℕ → ℕ → ℤ) → ℕ → ℕ → ℕ → ℕ → ℤ
apart part c b i k = part b k -ℤ part c i

-- what cell c gains from cell b, its neighbour in direction i, whose opposite is k
unfoldable pub passed : List ℕ → (ℕ → ℕ → ℤ) → List ℕ → ℕ → ℕ → ℕ → ℕ → ℤ
passed flags part fills c b i k =
    by_flag (get_or flags b 3) (pos 0) (exchange (get_or fills c 0 + get_or fills b 0) (apart part c b i k)) (apart part c b i k) (pos 0)
