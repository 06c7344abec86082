-- What a function of one cell sees: lent lists, the offsets of neighbours and the lowest inner cell, as a scene of its own; and what it asks of them. The
-- stages' definitions then say what it computes, and one law turns that into the step's scene. Parts are a function of cell and direction and the weights
-- are named, so that all of it serves any lattice that lies in the nineteen places; the box's are named at the end of each. Assumes nothing.
use Rattle.std.specs.Prelude.{◌≡◌, true, false, List, [], ◌∷◌, ℕ, ◌+◌, ◌-◌, ◌*◌, ◌<◌, ◌≤◌, ℤ, pos, length, get_or}
use Rattle.whole.specs.laws.Machine.{Within}
use Rattle.lattice.specs.Lattice.{Lattice, d3q19, density, momentum, dot}
use Rattle.lattice.specs.Cell.{dense, slow}
use Rattle.lattice.specs.declared.Settings.{Settings}
use Rattle.grid.specs.State.{Scene, liquid, part_of}
use Rattle.grid.specs.Mode.{scene_by}

-- document 01's nineteen places and directions, with weights w: the box's own are document 01's
abbrev pub weighing : (ℕ → ℕ) → Lattice
weighing w = record {
  q = d3q19.q;
  weight = w;
  e = d3q19.e;
  opp = d3q19.opp;
  xp = d3q19.xp;
  xm = d3q19.xm;
  yp = d3q19.yp;
  ym = d3q19.ym;
  zp = d3q19.zp;
  zm = d3q19.zm;
}

-- the scene: neighbour i of cell c is (c − low) + off[i]; masses are [] for a function that is lent none, and none is lent the carry;
-- a function that is lent no settings promises for any
unfoldable pub sight : (ℕ → ℕ) → List ℕ → (ℕ → ℕ → ℤ) → List ℤ → List ℕ → List ℕ → ℕ → Settings → Scene
sight w flags part masses fills off low g =
    scene_by (weighing w) (record { cells = length flags; near = λ c i. (c - low) + get_or off i 0; outer = λ c. false })
    (record { flag = λ c. get_or flags c 3; part = part; mass = λ c. get_or masses c (pos 0); fill = λ c. get_or fills c 0; carry = pos 0 })
    g

-- the box's: document 01's weights, and part k of cell c at 19c + k
abbrev pub box_sight : List ℕ → List ℤ → List ℤ → List ℕ → List ℕ → ℕ → Settings → Scene
box_sight flags parts masses fills off low g = sight d3q19.weight flags (part_of parts) masses fills off low g

-- what a liquid cell has: parts, density and speed in their ranges
pub record Body (f : ℕ → ℤ) : Type 0 where
  pub parts : (k : ℕ) → k ≤ 18 → Within (f k) 1179648
  pub is-dense : dense (density d3q19 f) ≡ true
  pub is-slow : slow (density d3q19 f) (dot (momentum d3q19 f) (momentum d3q19 f)) ≡ true

-- every liquid cell has such a body
pub record Bodies (flags : List ℕ) (part : ℕ → ℕ → ℤ) : Type 0 where
  pub few : length flags ≤ 262144
  pub body : (c : ℕ) → c < length flags → liquid (get_or flags c 3) ≡ true → Body (part c)

-- the box's: nineteen parts a cell in one list
pub record Bodied (flags : List ℕ) (parts : List ℤ) : Type 0 where
  pub count : length parts ≡ 19 * length flags
  pub few : length flags ≤ 262144
  pub body : (c : ℕ) → c < length flags → liquid (get_or flags c 3) ≡ true → Body (part_of parts c)

abbrev pub bodies_of : {flags : List ℕ} {parts : List ℤ} → Bodied flags parts → Bodies flags (part_of parts)
bodies_of b = record { few = b.few; body = b.body }

-- cell c is a cell, and each of its neighbours is; offset 0 leads to c itself
pub record Around (n : ℕ) (off : List ℕ) (low c : ℕ) : Type 0 where
  pub is-cell : c < n
  pub from : low ≤ c
  pub each : (i : ℕ) → i < 19 → (c - low) + get_or off i 0 < n
  pub self : (c - low) + get_or off 0 0 ≡ c
