-- What the code holds of one cell, in the definitions' words: its parts as a function of the direction, a flow's momentum as a vector, the bounds that
-- its arithmetic asks for, and what it answers of a cell that stands by itself. Assumes nothing.
use Rattle.std.specs.Prelude.{ℕ, ◌<◌, Bool, ◌&&◌, List, ℤ, pos, eqb, ◌≤ℤ◌, get_or}
use Rattle.whole.specs.laws.Machine.{Within}
use Rattle.lattice.specs.declared.Flow.{Flow}
use Rattle.lattice.specs.Lattice.{V3, dot, Lattice, density}
use Rattle.lattice.specs.Cell.{mass_good, fill_of, dense, slow}
use Rattle.lattice.specs.Body.{body_good, eq_z}

-- part k of an array of parts
abbrev pub parts_of : List ℤ → ℕ → ℤ
parts_of f k = get_or f k (pos 0)

-- part 0 within ±r, each other part within ±b: part 0 is what the eighteen others leave, and so may be the largest by far
pub record Bounded (f : List ℤ) (r b : ℕ) : Type 0 where
  pub rest : Within (parts_of f 0) r
  pub at : (k : ℕ) → 0 < k → k < 19 → Within (parts_of f k) b

-- weights of the eighteen directions that shares can be worked out with
pub record Weights (w : List ℤ) : Type 0 where
  pub at : (k : ℕ) → 0 < k → k < 19 → Within (parts_of w k) 1000000

-- a flow's momentum
abbrev pub vec : Flow → V3
vec v = record { x = v.x; y = v.y; z = v.z }

-- density in its range, and no component above a third of the largest density: what the products of stages 1, 4 and 5 need
pub record Tame (v : Flow) : Type 0 where
  pub low : pos 294912 ≤ℤ v.rho
  pub rho : Within v.rho 1179648
  pub x : Within v.x 393216
  pub y : Within v.y 393216
  pub z : Within v.z 393216

-- stage 3's test of a flow
unfoldable pub steady_flow : Flow → Bool
steady_flow v = dense v.rho && slow v.rho (dot (vec v) (vec v))

-- a fluid cell with mass m and this fill keeps its rules; an interface cell does
unfoldable pub good_fluid : Lattice → (ℕ → ℤ) → ℤ → ℕ → Bool
good_fluid L f m fill = body_good L f && eq_z m (density L f) && eqb fill 65536

unfoldable pub good_interface : Lattice → (ℕ → ℤ) → ℤ → ℕ → Bool
good_interface L f m fill = body_good L f && mass_good m && eqb fill (fill_of m (density L f))
