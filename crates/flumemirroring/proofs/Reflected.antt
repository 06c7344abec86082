-- The flume's directions reflected, a table an axis; and its one layer of cells as a box's. Assumes nothing.
use mathlib.Core.Path.{◌≡◌, refl, ap, ◌∙◌}
use mathlib.Core.List.{List, [], ◌∷◌}
use mathlib.Core.Bool.{true, ◌||◌}
use mathlib.Core.Logic.{◌⊎◌, inl, inr}
use Prim.Native.Nat.{ℕ, ◌*◌}
use native.Mathlib.Nat.{one-mul}
use native.Mathlib.Omega.{arith}
use lib.Dec.{eqb}
use borrow.Author.Tests.{eqb-true}
use Rattle.whole.specs.laws.Bools.{or_cases}
use Rattle.whole.specs.Fold.{tab, open-fold}
use Rattle.lattice.specs.Lattice.{d2q9, open-lattice}
use Rattle.grid.specs.declared.Sides.{Sides}
use Rattle.grid.specs.Grid.{cells_of}
use Rattle.grid.specs.State.{Lent}
use Rattle.flume.specs.declared.FlumeSides.{FlumeSides}
use Rattle.flume.specs.Flume.{flume_cells}
use Rattle.mirror.specs.Mirror.{turn, reflect, same_v, turned_dir, flume_mirror}
use Rattle.mirror.proofs.Lattices.{turns9}
use Rattle.mirroring.specs.Turned.{turned_set, axes_of}
use Rattle.mirroring.specs.inner.Between.{dir_in, table_mirror, Directed}
use Rattle.mirroring.proofs.Reflected.{directed, by-table}
use Rattle.flumemirroring.specs.Turned.{flume_turned}
use Rattle.flumemirroring.specs.Outcome.{flume_axis}

pub table-x : 0 ∷ 2 ∷ 1 ∷ 3 ∷ 4 ∷ 8 ∷ 7 ∷ 6 ∷ 5 ∷ 0 ∷ 0 ∷ 0 ∷ 0 ∷ 0 ∷ 0 ∷ 0 ∷ 0 ∷ 0 ∷ 0 ∷ [] ≡ tab 19 (dir_in d2q9 0)
unfolding open-fold open-lattice turn reflect same_v turned_dir axes_of
table-x = refl

pub table-z : 0 ∷ 1 ∷ 2 ∷ 4 ∷ 3 ∷ 7 ∷ 8 ∷ 5 ∷ 6 ∷ 0 ∷ 0 ∷ 0 ∷ 0 ∷ 0 ∷ 0 ∷ 0 ∷ 0 ∷ 0 ∷ 0 ∷ [] ≡ tab 19 (dir_in d2q9 2)
unfolding open-fold open-lattice turn reflect same_v turned_dir axes_of
table-z = refl

-- an axis that the flume has, and that is not x
pub or-z : (axis : ℕ) → flume_axis axis ≡ true → (axis ≡ 0 → ⊥) → axis ≡ 2
unfolding flume_axis
or-z axis e n = go (or_cases (eqb axis 0) (eqb axis 2) e)
  where
    go : (eqb axis 0 ≡ true) ⊎ (eqb axis 2 ≡ true) → axis ≡ 2
    go (inl h) = absurd (n (eqb-true axis 0 h))
    go (inr h) = eqb-true axis 2 h

pub flume-directed : (axis : ℕ) (dirs : List ℕ) → dirs ≡ tab 19 (dir_in d2q9 axis) → Directed 9 dirs
unfolding d2q9
flume-directed axis dirs e = directed d2q9 (omega arith) axis dirs e (turns9 (axes_of axis))

-- the box of one layer
abbrev pub layer_of : FlumeSides → Sides
layer_of s = record { nx = s.nx; ny = 1; nz = s.nz }

pub layer-cells : (s : FlumeSides) → cells_of (layer_of s) ≡ flume_cells s
unfolding cells_of flume_cells
layer-cells s = ap (λ (k : ℕ). s.nx * k) (one-mul s.nz)

-- what the box's pass over it makes by the table
pub layer-turned : (s : FlumeSides) (axis : ℕ) (dirs : List ℕ) (a : Lent) → dirs ≡ tab 19 (dir_in d2q9 axis)
    → turned_set (table_mirror (layer_of s) axis dirs) 8 (cells_of (layer_of s)) a ≡ flume_turned s axis a
unfolding flume_turned flume_mirror d2q9
layer-turned s axis dirs a e =
    ap (λ (n : ℕ). turned_set (table_mirror (layer_of s) axis dirs) 8 n a) (layer-cells s) ∙ by-table d2q9 (omega arith) axis dirs e (layer_of s) (flume_cells s) a
