-- What is asked of a grid laid on a lattice: an inner cell's neighbours are cells, and each has it for a neighbour. Assumes nothing.
use mathlib.Core.Path.{◌≡◌, refl}
use mathlib.Core.Bool.{Bool, true, false}
use Prim.Native.Nat.{ℕ, ◌<◌}
use Rattle.whole.specs.Fold.{Dir}
use Rattle.lattice.specs.Lattice.{Lattice}
use Rattle.grid.specs.Grid.{Grid}
use Rattle.grid.specs.Demands.{Walled}

pub record Laid (L : Lattice) (G : Grid) : Type 0 where
  pub cell : (c i : ℕ) → c < G.cells → G.outer c ≡ false → Dir L.q i → G.near c i < G.cells
  pub back : (c i : ℕ) → c < G.cells → G.outer c ≡ false → Dir L.q i → G.near (G.near c i) (L.opp i) ≡ c

-- a cell that is no wall is inner
pub inner : (G : Grid) (flag : ℕ → ℕ) → Walled G flag → (c : ℕ) → c < G.cells → (flag c ≡ 3 → ⊥) → G.outer c ≡ false
inner G flag w c h n = go (G.outer c) refl
  where
    go : (b : Bool) → G.outer c ≡ b → G.outer c ≡ false
    go true e = absurd (n (w c h e))
    go false e = e
