-- What a function of one flume cell sees: the flume's weights, and nine stored parts a cell among the nineteen places; and what it asks. Assumes nothing.
use Rattle.std.specs.Prelude.{◌≡◌, true, List, ℕ, ◌+◌, ◌*◌, ◌<◌, ℤ, length, get_or}
use Rattle.lattice.specs.Lattice.{dot, pair_opp, d3q19}
use Rattle.lattice.specs.inner.Held.{vec}
use Rattle.lattice.specs.declared.Flow.{Flow}
use Rattle.lattice.specs.declared.Settings.{Settings}
use Rattle.grid.specs.State.{Scene, liquid}
use Rattle.grid.specs.inner.Sight.{sight, Bodies}
use Rattle.arrivals.specs.inner.Sources.{Flows}
use Rattle.arrivals.specs.inner.Trade.{Fills, Masses, Trading}
use Rattle.flume.specs.inner.Spread.{wide, spread_lattice}
use Rattle.nine.specs.inner.Cells.{part_of9}

abbrev pub sight9 : List ℕ → List ℤ → List ℤ → List ℕ → List ℕ → ℕ → Settings → Scene
sight9 flags parts masses fills off low g = sight spread_lattice.weight flags (part_of9 parts) masses fills off low g

-- nine parts a cell in one list, and every liquid cell has a body
pub record Bodied9 (flags : List ℕ) (parts : List ℤ) : Type 0 where
  pub count : length parts ≡ 9 * length flags
  pub bodies : Bodies flags (part_of9 parts)

-- what the trade of any cell reads
pub record Traders9 (flags : List ℕ) (parts masses : List ℤ) (fills : List ℕ) : Type 0 where
  pub bodied : Bodied9 flags parts
  pub masses-good : Masses flags masses
  pub fills-good : Fills flags fills

abbrev pub trading9 : {flags : List ℕ} {parts masses : List ℤ} {fills : List ℕ} → Traders9 flags parts masses fills → Trading flags (part_of9 parts) masses fills
trading9 t = record { bodies = t.bodied.bodies; masses-good = t.masses-good; fills-good = t.fills-good }

-- where part k that streams straight into cell c lies, counted from the first part of cell c − low
unfoldable pub source_of9 : List ℕ → ℕ → ℕ
source_of9 off k = 9 * get_or off (pair_opp (wide k)) 0 + k

-- cell b is the neighbour of a liquid cell c in direction k, which stands at place i; m is a direction's number, and d = e·j
pub record Beside9 (flags : List ℕ) (parts : List ℤ) (c b i k m : ℕ) (v : Flow) (d : ℤ) : Type 0 where
  pub bodied : Bodied9 flags parts
  pub is-cell : c < length flags
  pub is-liquid : liquid (get_or flags c 3) ≡ true
  pub is-near : b < length flags
  pub place : i ≡ wide k
  pub some : 0 < i
  pub low : i < 19
  pub most : k < 9
  pub part : m < 9
  pub flows : Flows (part_of9 parts) c v
  pub along : d ≡ dot (d3q19.e i) (vec v)
