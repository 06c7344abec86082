-- Neighbours by offsets: for a cell from the lowest inner one on, (c − low) + offset i is its neighbour i, and a neighbour of an inner cell is a cell.
-- The components of the directions are at most 1 either way: one computed test. Assumes nothing.
use mathlib.Core.Path.{◌≡◌, refl, ap₂}
use mathlib.Core.List.{List, [], ◌∷◌}
use mathlib.Core.Bool.{Bool, true, ◌&&◌}
use Prim.Native.Nat.{ℕ, ◌+◌, ◌-◌, ◌*◌, ◌≤◌, ◌<◌}
use native.Mathlib.Nat.{mul-le-mul_left}
use native.Mathlib.Omega.{arith}
use lib.Dec.{leb}
use lib.ListN.{get_or}
use borrow.Author.Tests.{leb-true}
use Rattle.whole.specs.laws.Bools.{and_left, and_right}
use Rattle.whole.specs.Fold.{up, down, tab, open-fold}
use Rattle.whole.specs.laws.Tab.{get_or-tab}
use Rattle.whole.specs.laws.Search.{all-at}
use Rattle.lattice.specs.Lattice.{V3, d3q19, open-lattice}
use Rattle.grid.specs.declared.Sides.{Sides}
use Rattle.grid.specs.Grid.{cell_at, toward, grid_of, box, cells_of}
use Rattle.grid.specs.inner.Passes.{Inner, low_of, offset_of}

-- a vector's components, either way
abbrev ahead_small : V3 → Bool
ahead_small v = leb (up v.x) 1 && leb (up v.y) 1 && leb (up v.z) 1

abbrev back_small : V3 → Bool
back_small v = leb (down v.x) 1 && leb (down v.y) 1 && leb (down v.z) 1

abbrev small_v : V3 → Bool
small_v v = ahead_small v && back_small v

small : (i : ℕ) → i < 19 → small_v (d3q19.e i) ≡ true
unfolding open-lattice open-fold
small i h = all-at 19 (λ i. small_v (d3q19.e i)) refl i h

-- a cell number of three small coordinates is at most the lowest inner cell
corner : (s : Sides) (x y z : ℕ) → (leb x 1 && leb y 1 && leb z 1) ≡ true → cell_at s.nx s.ny x y z ≤ low_of s
unfolding low_of
corner s x y z e =
    let hx : x ≤ 1 = leb-true x 1 (and_left (leb x 1) (leb y 1) (and_left (leb x 1 && leb y 1) (leb z 1) e)) in
    let hy : y ≤ 1 = leb-true y 1 (and_right (leb x 1) (leb y 1) (and_left (leb x 1 && leb y 1) (leb z 1) e)) in
    let hz : z ≤ 1 = leb-true z 1 (and_right (leb x 1 && leb y 1) (leb z 1) e) in
    omega (arith, mul-le-mul_left s.nx hy, mul-le-mul_left (s.nx * s.ny) hz)

-- two lists that are equal entry by entry
abbrev pub Each : List ℕ → List ℕ → Type 0
Each [] [] = Unit
Each [] (y ∷ ys) = ⊥
Each (x ∷ xs) [] = ⊥
Each (x ∷ xs) (y ∷ ys) = (x ≡ y) × Each xs ys

pub listed : (xs ys : List ℕ) → Each xs ys → xs ≡ ys
listed [] [] e = refl
listed [] (y ∷ ys) e = absurd e
listed (x ∷ xs) [] e = absurd e
listed (x ∷ xs) (y ∷ ys) e = ap₂ (λ (a : ℕ) (l : List ℕ). a ∷ l) e.0 (listed xs ys e.1)

-- the table that the code lists: the directions as cells around (1, 1, 1), one test of arithmetic for all
pub table : (s : Sides) →
    cell_at s.nx s.ny 1 1 1
    ∷ cell_at s.nx s.ny 2 1 1 ∷ cell_at s.nx s.ny 0 1 1
    ∷ cell_at s.nx s.ny 1 2 1 ∷ cell_at s.nx s.ny 1 0 1
    ∷ cell_at s.nx s.ny 1 1 2 ∷ cell_at s.nx s.ny 1 1 0
    ∷ cell_at s.nx s.ny 2 2 1 ∷ cell_at s.nx s.ny 0 0 1
    ∷ cell_at s.nx s.ny 2 0 1 ∷ cell_at s.nx s.ny 0 2 1
    ∷ cell_at s.nx s.ny 1 2 2 ∷ cell_at s.nx s.ny 1 0 0
    ∷ cell_at s.nx s.ny 1 2 0 ∷ cell_at s.nx s.ny 1 0 2
    ∷ cell_at s.nx s.ny 2 1 2 ∷ cell_at s.nx s.ny 0 1 0
    ∷ cell_at s.nx s.ny 2 1 0 ∷ cell_at s.nx s.ny 0 1 2
    ∷ []
    ≡ tab 19 (offset_of s)
unfolding offset_of toward low_of open-lattice open-fold
table s = listed _ _ (omega arith)

module _ (s : Sides) (i : ℕ) (h : i < 19) where
  abbrev e : V3
  e = d3q19.e i

  abbrev ahead : ℕ
  ahead = cell_at s.nx s.ny (up e.x) (up e.y) (up e.z)

  abbrev back : ℕ
  back = cell_at s.nx s.ny (down e.x) (down e.y) (down e.z)

  ahead-low : ahead ≤ low_of s
  ahead-low = corner s (up e.x) (up e.y) (up e.z) (and_left (ahead_small e) (back_small e) (small i h))

  back_low : back ≤ low_of s
  back_low = corner s (down e.x) (down e.y) (down e.z) (and_right (ahead_small e) (back_small e) (small i h))

  pub near-offset : (c : ℕ) → low_of s ≤ c → c - low_of s + offset_of s i ≡ (grid_of s).near c i
  unfolding offset_of grid_of box toward
  near-offset c l = omega (arith, ahead-low, back_low)

  pub near-below : (c : ℕ) → Inner s c → (grid_of s).near c i < cells_of s
  unfolding grid_of box toward
  near-below c g = omega (arith, ahead-low, back_low, g.low, g.high)

-- direction 0 leads to the cell itself
pub near-self : (s : Sides) (c : ℕ) → (grid_of s).near c 0 ≡ c
unfolding grid_of box toward open-lattice
near-self s c = omega arith

-- an array of these offsets leads to the neighbours
pub neighbour : (s : Sides) (off : List ℕ) (low c i : ℕ) → off ≡ tab 19 (offset_of s) → low ≡ low_of s → i < 19 → low_of s ≤ c
    → c - low + get_or off i 0 ≡ (grid_of s).near c i
neighbour s off low c i e l h g = rw (e, l, get_or-tab 19 (offset_of s) 0 i h) (near-offset s i h c g)
