-- What the numbers of depth and placing mean: 1 is test 1 of the sides, 2 test 2 of flags and fills, 3 the ranges of edge, origin and point; where no test
-- fails, a column is solid, dry or deep, and a point is in a cell or outside. Assumes nothing.
use mathlib.Core.Path.{◌≡◌, refl, sym, ap, ◌∙◌}
use mathlib.Core.Bool.{Bool, true, false, not, ◌&&◌, ◌||◌, cond, false≢true}
use mathlib.Core.List.{List}
use Prim.Native.Nat.{ℕ, ◌<◌}
use native.Mathlib.Omega.{arith}
use borrow.Author.Tests.{lt-ltb, eqb-false}
use lib.Dec.{eqb, leb, ltb}
use lib.IntN.{ℤ, nat_abs}
use lib.ListN.{length}
use Rattle.whole.specs.Fold.{first, all, total}
use Rattle.grid.specs.declared.Sides.{Sides}
use Rattle.grid.specs.Grid.{sides_good, cells_of, cell_at}
use Rattle.tunnel.specs.declared.Point.{Point}
use Rattle.tunnel.specs.Refusal.{or_else}
use Rattle.lattice.specs.Cell.{edge_good}
use Rattle.tunnel.specs.Place.{Placed, placed_number, point_good, axis_of, found_of, placing_of}
use Rattle.tunnel.specs.Depth.{Reading, reading_number, solid, dry, deep, flag_bad, fill_bad, is_wall, open_fill, reading_of, measured_of, depth_of}
use Rattle.grid.specs.declared.refusals.Refusal.TheVariants.{BadSides, BadLength, BadSetting, BadFlag, BadState, Outside}
use Rattle.std.specs.Prelude.{Ok, Err}

-- ---- depth

-- what a column that passed its tests shows
pub data Reads : Reading → Type 0 where
  reads-solid : Reads (Ok solid)
  reads-dry : Reads (Ok dry)
  reads-deep : {n : ℕ} → 0 < n → Reads (Ok (deep n))

shape-reads : (a b w t : Bool) (p q n : ℕ) → eqb n 0 ≡ t → (let r = or_else a (Err (BadFlag p)) (or_else b (Err (BadState q)) (Ok (cond w solid (cond t dry (deep n))))) in
    (eqb (reading_number r) 4 || eqb (reading_number r) 6) ≡ false → Reads r)
shape-reads false b w t p q n z e = absurd (false≢true (sym e))
shape-reads true false w t p q n z e = absurd (false≢true (sym e))
shape-reads true true true t p q n z e = reads-solid
shape-reads true true false true p q n z e = reads-dry
shape-reads true true false false p q n z e = reads-deep (pos_of n (eqb-false n 0 z))
  where
    pos_of : (n : ℕ) → (n ≡ 0 → ⊥) → 0 < n
    pos_of n h = omega (arith, h)

shape-number : (a b w t : Bool) (p q n k : ℕ) → eqb 4 k ≡ false → eqb 6 k ≡ false → eqb 0 k ≡ false
    → eqb (reading_number (or_else a (Err (BadFlag p)) (or_else b (Err (BadState q)) (Ok (cond w solid (cond t dry (deep n))))))) k ≡ false
shape-number false b w t p q n k x y z = x
shape-number true false w t p q n k x y z = y
shape-number true true true t p q n k x y z = z
shape-number true true false true p q n k x y z = z
shape-number true true false false p q n k x y z = z

module _ (s : Sides) (flags fills : List ℕ) (x y : ℕ) where
  pub measured-reads : (eqb (reading_number (measured_of s flags fills x y)) 4 || eqb (reading_number (measured_of s flags fills x y)) 6) ≡ false → Reads (measured_of s flags fills x y)
  unfolding measured_of reading_of
  measured-reads e =
      let f = first s.nz (flag_bad s flags x y) in
      let g = first s.nz (fill_bad s fills x y) in
      let n = total s.nz (open_fill s flags fills x y) in
      shape-reads (leb s.nz f) (leb s.nz g) (all s.nz (is_wall s flags x y)) (eqb n 0) (cell_at s.nx s.ny x y f) (cell_at s.nx s.ny x y g) n refl e

  measured-number : (k : ℕ) → eqb 4 k ≡ false → eqb 6 k ≡ false → eqb 0 k ≡ false → eqb (reading_number (measured_of s flags fills x y)) k ≡ false
  unfolding measured_of reading_of
  measured-number k a b d =
      let f = first s.nz (flag_bad s flags x y) in
      let g = first s.nz (fill_bad s fills x y) in
      let n = total s.nz (open_fill s flags fills x y) in
      shape-number (leb s.nz f) (leb s.nz g) (all s.nz (is_wall s flags x y)) (eqb n 0) (cell_at s.nx s.ny x y f) (cell_at s.nx s.ny x y g) n k a b d

  -- test 2 of flags and fills
  abbrev pub lengths : Bool
  lengths = eqb (length flags) (cells_of s) && eqb (length fills) (cells_of s)

  pub measures : sides_good s ≡ true → lengths ≡ true → x < s.nx → y < s.ny → depth_of s flags fills x y ≡ measured_of s flags fills x y
  unfolding depth_of
  measures g l hx hy = simp (g, l, lt-ltb x s.nx hx, lt-ltb y s.ny hy)

module _ (s : Sides) (flags fills : List ℕ) where
  abbrev inner : Reading
  inner = or_else (ltb 0 s.nx && ltb 0 s.ny) (Err Outside) (measured_of s flags fills 0 0)

  inner-number : (k : ℕ) → eqb 4 k ≡ false → eqb 6 k ≡ false → eqb 0 k ≡ false → eqb 13 k ≡ false → eqb (reading_number inner) k ≡ false
  inner-number k a b d e = go (ltb 0 s.nx && ltb 0 s.ny)
    where
      go : (t : Bool) → eqb (reading_number (or_else t (Err Outside) (measured_of s flags fills 0 0))) k ≡ false
      go true = measured-number s flags fills 0 0 k a b d
      go false = e

  -- 1 exactly for bad sides
  pub one-means : eqb (reading_number (depth_of s flags fills 0 0)) 1 ≡ not (sides_good s)
  unfolding depth_of
  one-means = go (sides_good s) (lengths s flags fills 0 0)
    where
      go : (a b : Bool) → eqb (reading_number (or_else a (Err BadSides) (or_else b (Err BadLength) inner))) 1 ≡ not a
      go true true = inner-number 1 refl refl refl refl
      go true false = refl
      go false b = refl

  -- then 2 exactly for wrong lengths
  pub two-means : sides_good s ≡ true → eqb (reading_number (depth_of s flags fills 0 0)) 2 ≡ not (lengths s flags fills 0 0)
  unfolding depth_of
  two-means g = go (sides_good s) (lengths s flags fills 0 0) g
    where
      go : (a b : Bool) → a ≡ true → eqb (reading_number (or_else a (Err BadSides) (or_else b (Err BadLength) inner))) 2 ≡ not b
      go true true e = inner-number 2 refl refl refl refl
      go true false e = refl
      go false b e = absurd (false≢true e)

-- ---- placing

-- a point in range is in a cell or outside
pub data Finds : Placed → Type 0 where
  finds-none : Finds (Err Outside)
  finds-cell : (c : ℕ) → Finds (Ok c)

shape-finds : (a b d : Bool) (c : ℕ) → a ≡ true → (let r = or_else a (Err BadSides) (or_else b (Err (BadSetting 0)) (or_else d (Err Outside) (Ok c))) in eqb (placed_number r) 3 ≡ false → Finds r)
shape-finds false b d c g e = absurd (false≢true g)
shape-finds true false d c g e = absurd (false≢true (sym e))
shape-finds true true false c g e = finds-none
shape-finds true true true c g e = finds-cell c

pub place-finds : (s : Sides) (edge : ℤ) (origin point : Point) → sides_good s ≡ true → eqb (placed_number (placing_of s edge origin point)) 3 ≡ false → Finds (placing_of s edge origin point)
unfolding placing_of found_of
place-finds s edge origin point g e =
    let x = axis_of point.x origin.x (nat_abs edge) s.nx in
    let y = axis_of point.y origin.y (nat_abs edge) s.ny in
    let z = axis_of point.z origin.z (nat_abs edge) s.nz in
    shape-finds (sides_good s) (edge_good edge && point_good origin && point_good point) (ltb x s.nx && ltb y s.ny && ltb z s.nz) (cell_at s.nx s.ny x y z) g e

shape-three : (a b d : Bool) (c : ℕ) → a ≡ true → eqb (placed_number (or_else a (Err BadSides) (or_else b (Err (BadSetting 0)) (or_else d (Err Outside) (Ok c))))) 3 ≡ not b
shape-three false b d c g = absurd (false≢true g)
shape-three true false d c g = refl
shape-three true true false c g = refl
shape-three true true true c g = refl

-- 3 exactly for an edge, an origin or a point out of range; of the origin itself: for edge or origin
pub three-means : (s : Sides) (edge : ℤ) (origin point : Point) → sides_good s ≡ true
    → eqb (placed_number (placing_of s edge origin point)) 3 ≡ not (edge_good edge && point_good origin && point_good point)
unfolding placing_of found_of
three-means s edge origin point g =
    let x = axis_of point.x origin.x (nat_abs edge) s.nx in
    let y = axis_of point.y origin.y (nat_abs edge) s.ny in
    let z = axis_of point.z origin.z (nat_abs edge) s.nz in
    shape-three (sides_good s) (edge_good edge && point_good origin && point_good point) (ltb x s.nx && ltb y s.ny && ltb z s.nz) (cell_at s.nx s.ny x y z) g

twice : (a b : Bool) → (a && b && b) ≡ (a && b)
twice true true = refl
twice true false = refl
twice false b = refl

pub origin-means : (s : Sides) (edge : ℤ) (origin : Point) → sides_good s ≡ true
    → eqb (placed_number (placing_of s edge origin origin)) 3 ≡ not (edge_good edge && point_good origin)
origin-means s edge origin g = three-means s edge origin origin g ∙ ap not (twice (edge_good edge) (point_good origin))
