-- Where the parts that stream into a cell come from, which way it leans, and what stage 1's code asks at a cell. Assumes nothing.
use Rattle.std.specs.Prelude.{◌≡◌, true, cond, List, ℕ, ◌+◌, ◌-◌, ◌*◌, ◌<◌, ◌≤◌, ℤ, pos, ltb, length, get_or}
use Rattle.lattice.specs.Lattice.{dot, pair_opp, d3q19, density, momentum}
use Rattle.lattice.specs.inner.Held.{vec}
use Rattle.lattice.specs.declared.Flow.{Flow}
use Rattle.grid.specs.State.{by_flag, liquid, part_of}
use Rattle.grid.specs.inner.Passes.{normal_at}
use Rattle.grid.specs.inner.Sight.{Bodied}

-- opposite neighbours lie opposite: the offsets of a pair add up to twice the lowest inner cell, and rest's is that cell
pub record Mirrored (off : List ℕ) (low : ℕ) : Type 0 where
  pub pair : (i : ℕ) → i < 19 → get_or off i 0 + get_or off (pair_opp i) 0 ≡ low + low
  pub few : low ≤ 262144

-- where part k that streams straight into cell c lies, counted from the first part of cell c − low
unfoldable pub source_of : List ℕ → ℕ → ℕ
source_of off k = 19 * get_or off (pair_opp k) 0 + k

-- cell c is fluid, and every neighbour of it is liquid
pub record Immersed (flags off : List ℕ) (low c : ℕ) : Type 0 where
  pub fluid : get_or flags c 3 ≡ 2
  pub each : (i : ℕ) → 0 < i → i < 19 → liquid (get_or flags ((c - low) + get_or off i 0) 3) ≡ true

-- no neighbour of cell c is empty, where it is fluid
abbrev pub Enclosed : List ℕ → List ℕ → ℕ → ℕ → Type 0
Enclosed flags off low c = get_or flags c 3 ≡ 2 → (i : ℕ) → 0 < i → i < 19 → get_or flags ((c - low) + get_or off i 0) 3 ≡ 0 → ⊥

-- where the part lies that arrives at such a cell from its neighbour b in direction i, whose opposite is k: behind a wall the cell's own
unfoldable pub arrival_at : List ℕ → ℕ → ℕ → ℕ → ℕ → ℕ
arrival_at flags c b i k = cond (ltb 2 (get_or flags b 3)) (19 * c + i) (19 * b + k)

-- n·e of direction i for an interface cell c, 0 for any other
unfoldable pub lean_at : List ℕ → List ℕ → List ℕ → ℕ → ℕ → ℕ → ℤ
lean_at flags fills off low c i = by_flag (get_or flags c 3) (pos 0) (dot (d3q19.e i) (normal_at flags fills off (c - low))) (pos 0) (pos 0)

-- v is the flow of cell c
pub record Flows (part : ℕ → ℕ → ℤ) (c : ℕ) (v : Flow) : Type 0 where
  pub density : v.rho ≡ density d3q19 (part c)
  pub momentum : vec v ≡ momentum d3q19 (part c)

-- cell b is the neighbour of a liquid cell c in direction i, with k an own part's number and d = e·j
pub record Beside (flags : List ℕ) (parts : List ℤ) (c b i k : ℕ) (v : Flow) (d : ℤ) : Type 0 where
  pub bodied : Bodied flags parts
  pub is-cell : c < length flags
  pub is-liquid : liquid (get_or flags c 3) ≡ true
  pub is-near : b < length flags
  pub some : 0 < i
  pub most : i < 19
  pub part : k < 19
  pub flows : Flows (part_of parts) c v
  pub along : d ≡ dot (d3q19.e i) (vec v)
