-- Cells and directions reflected in an axis, as the code works them out: coordinate by coordinate, and by a table. Assumes nothing.
use mathlib.Core.Path.{◌≡◌, refl, sym, ap, ◌∙◌, subst}
use mathlib.Core.Bool.{Bool, true, false, false≢true}
use mathlib.Core.List.{List, [], ◌∷◌}
use Prim.Native.Nat.{ℕ, suc, ◌+◌, ◌-◌, ◌*◌, ◌/◌, ◌%◌, ◌≤◌, ◌<◌}
use native.Mathlib.Nat.{mul-le-mul_right, one-mul, le_of_suc-le-suc}
use native.Mathlib.Omega.{arith}
use lib.Dec.{eqb}
use lib.ListN.{get_or}
use Rattle.whole.specs.Fold.{tab, open-fold}
use Rattle.whole.specs.laws.Tab.{get_or-tab}
use Rattle.lattice.specs.Lattice.{Lattice, d3q19, open-lattice}
use Rattle.grid.specs.declared.Sides.{Sides}
use Rattle.grid.specs.Grid.{cell_at, cells_of, grid_of, box}
use Rattle.grid.specs.State.{Lent, lent, state_of}
use Rattle.mirror.specs.Mirror.{turn, reflect, same_v, flip, turned_dir, turned_cell, Turns, mirror_of, box_mirror, mirrored, mirrored_set}
use Rattle.mirror.proofs.Together.{ap₃}
use Rattle.mirror.proofs.Cells.{low_x, low-y, low-z, grid-mirror}
use Rattle.mirror.proofs.Permuted.{low}
use Rattle.mirror.proofs.Sets.{one_set}
use Rattle.mirroring.specs.Turned.{turned_set, axes_of}
use Rattle.mirroring.specs.inner.Between.{cell_in, dir_in, table_mirror, Directed}

-- ---- one coordinate
pub flip-yes : (b : Bool) (n x : ℕ) → b ≡ true → x < n → n - 1 - x ≡ flip b n x
unfolding flip
flip-yes true n x e h = omega arith
flip-yes false n x e h = absurd (false≢true e)

pub flip-not : (b : Bool) (n x : ℕ) → b ≡ false → x ≡ flip b n x
unfolding flip
flip-not true n x e = absurd (false≢true (sym e))
flip-not false n x e = refl

-- ---- a cell
module _ (s : Sides) (axis c : ℕ) where
  -- the code's number is the reflected cell's
  pub number_is : {x y z : ℕ} → x ≡ flip (eqb axis 0) s.nx (c % s.nx) → y ≡ flip (eqb axis 1) s.ny (c / s.nx % s.ny) → z ≡ flip (eqb axis 2) s.nz (c / s.nx / s.ny)
      → x + s.nx * (y + s.ny * z) ≡ cell_in s axis c
  unfolding turned_cell axes_of
  number_is e f g = ap₃ (λ (x y z : ℕ). cell_at s.nx s.ny x y z) e f g

  module _ (h : c < cells_of s) where
    pub column-low : c % s.nx < s.nx
    unfolding cells_of
    column-low = low_x s.nx s.ny s.nz c h

    pub row_low : c / s.nx % s.ny < s.ny
    unfolding cells_of
    row_low = low-y s.nx s.ny s.nz c h

    pub plane-low : c / s.nx / s.ny < s.nz
    unfolding cells_of
    plane-low = low-z s.nx s.ny s.nz c h

    pub cell-low : cell_in s axis c < cells_of s
    unfolding grid_of box mirror_of box_mirror cells_of
    cell-low = (grid-mirror s (axes_of axis)).inside c h

-- the sums on the way to a cell's number are no larger than it
pub on-the-way : (nx ny x y z n : ℕ) → 1 ≤ nx → x + nx * (y + ny * z) < n → (ny * z < n) × (y + ny * z < n) × (nx * (y + ny * z) < n)
on-the-way nx ny x y z n h k =
    let l : 1 * (y + ny * z) ≤ nx * (y + ny * z) = mul-le-mul_right (y + ny * z) h in
    let e : y + ny * z ≤ nx * (y + ny * z) = subst (λ (m : ℕ). m ≤ nx * (y + ny * z)) (one-mul (y + ny * z)) l in
    (omega arith, omega arith, omega arith)

-- ---- the directions of the box, a table an axis
pub table-x : 0 ∷ 2 ∷ 1 ∷ 3 ∷ 4 ∷ 5 ∷ 6 ∷ 10 ∷ 9 ∷ 8 ∷ 7 ∷ 11 ∷ 12 ∷ 13 ∷ 14 ∷ 18 ∷ 17 ∷ 16 ∷ 15 ∷ [] ≡ tab 19 (dir_in d3q19 0)
unfolding open-fold open-lattice turn reflect same_v turned_dir axes_of
table-x = refl

pub table-y : 0 ∷ 1 ∷ 2 ∷ 4 ∷ 3 ∷ 5 ∷ 6 ∷ 9 ∷ 10 ∷ 7 ∷ 8 ∷ 14 ∷ 13 ∷ 12 ∷ 11 ∷ 15 ∷ 16 ∷ 17 ∷ 18 ∷ [] ≡ tab 19 (dir_in d3q19 1)
unfolding open-fold open-lattice turn reflect same_v turned_dir axes_of
table-y = refl

pub table-z : 0 ∷ 1 ∷ 2 ∷ 3 ∷ 4 ∷ 6 ∷ 5 ∷ 7 ∷ 8 ∷ 9 ∷ 10 ∷ 13 ∷ 14 ∷ 11 ∷ 12 ∷ 17 ∷ 18 ∷ 15 ∷ 16 ∷ [] ≡ tab 19 (dir_in d3q19 2)
unfolding open-fold open-lattice turn reflect same_v turned_dir axes_of
table-z = refl

-- ---- any lattice's, in a table of nineteen
module _ (L : Lattice) where
  pub by-axis : {l : List ℕ} (a axis : ℕ) → l ≡ tab 19 (dir_in L a) → axis ≡ a → l ≡ tab 19 (dir_in L axis)
  by-axis a axis t e = t ∙ ap (λ (b : ℕ). tab 19 (dir_in L b)) (sym e)

  module _ (narrow : L.q ≤ 18) (axis : ℕ) (dirs : List ℕ) (e : dirs ≡ tab 19 (dir_in L axis)) where
    each-is : (k : ℕ) → k ≤ L.q → get_or dirs k 0 ≡ dir_in L axis k
    each-is k h = ap (λ (l : List ℕ). get_or l k 0) e ∙ get_or-tab 19 (dir_in L axis) 0 k (omega arith)

    -- each leads to a direction
    pub directed : Turns L (axes_of axis) (turned_dir L (axes_of axis)) → Directed (suc L.q) dirs
    directed m = record {
      each = λ k h.
          let l : k ≤ L.q = le_of_suc-le-suc h in
          let g : get_or dirs k 0 ≤ L.q = subst (λ (d : ℕ). d ≤ L.q) (sym (each-is k l)) (low L (axes_of axis) (turned_dir L (axes_of axis)) m k l) in
          omega arith;
    }

    -- a set reflected by the table is the reflected set
    pub by-table : (s : Sides) (n : ℕ) (a : Lent) → turned_set (table_mirror s axis dirs) L.q n a ≡ turned_set (box_mirror L (axes_of axis) s.nx s.ny s.nz) L.q n a
    unfolding turned_set mirrored_set mirrored box_mirror
    by-table s n a =
        let old = state_of L.q a in
        ap (λ (d : Lent). lent d.flags d.parts d.masses d.fills a.carry)
        (one_set L.q n (mirrored (table_mirror s axis dirs) old) (mirrored (box_mirror L (axes_of axis) s.nx s.ny s.nz) old) (record {
          flags = λ c h. refl;
          parts = λ c k h l. ap (old.part (cell_in s axis c)) (each-is k l);
          masses = λ c h. refl;
          fills = λ c h. refl;
          carries = refl;
        }))
