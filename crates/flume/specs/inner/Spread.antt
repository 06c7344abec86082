-- The flume among the box's nineteen places. Its directions are the box's 1, 2, 5, 6 and 15 to 18: its nine parts stand there and at 0, and the ten other
-- places are idle, with no part, no weight, and no neighbour but the cell itself. Every stage gives the same on both (proofs/Bridge.antt). Assumes nothing.
use Rattle.std.specs.Prelude.{ℕ, ◌≤◌, ◌≡◌, Bool, true, cond, [], ◌∷◌, eqb, ℤ, pos, get_or}
use Rattle.lattice.specs.Lattice.{Lattice, d2q9}
use Rattle.grid.specs.Grid.{Grid}
use Rattle.grid.specs.State.{State, Scene}
use Rattle.grid.specs.inner.Sight.{weighing}

-- the place of direction k, 19 for what is no direction
unfoldable pub wide : ℕ → ℕ
wide k = get_or (0 ∷ 1 ∷ 2 ∷ 5 ∷ 6 ∷ 15 ∷ 16 ∷ 17 ∷ 18 ∷ []) k 19

-- the direction at a place, 9 at an idle one
unfoldable pub narrow : ℕ → ℕ
narrow i = get_or (0 ∷ 1 ∷ 2 ∷ 9 ∷ 9 ∷ 3 ∷ 4 ∷ 9 ∷ 9 ∷ 9 ∷ 9 ∷ 9 ∷ 9 ∷ 9 ∷ 9 ∷ 5 ∷ 6 ∷ 7 ∷ 8 ∷ []) i 9

unfoldable pub idle : ℕ → Bool
idle i = eqb (narrow i) 9

-- what belongs to the direction at a place; `other` at an idle one
module _ {ℓ} {A : Type ℓ} where
  unfoldable pub spread : A → (ℕ → A) → ℕ → A
  spread other f i = cond (idle i) other (f (narrow i))

-- the nineteen places and their directions with the flume's weights
abbrev pub spread_lattice : Lattice
spread_lattice = weighing (spread 0 d2q9.weight)

abbrev pub spread_grid : Grid → Grid
spread_grid G = record { cells = G.cells; near = λ c. spread c (G.near c); outer = G.outer }

abbrev pub spread_state : State → State
spread_state s = record { flag = s.flag; part = λ c. spread (pos 0) (s.part c); mass = s.mass; fill = s.fill; carry = s.carry }

-- a scene as the flume's own lattice reads it, and among the nineteen places
abbrev pub plain_scene : Scene → Scene
plain_scene S = record { lat = d2q9; grid = S.grid; old = S.old; g = S.g; relax = S.relax }

abbrev pub spread_scene : Scene → Scene
spread_scene S = record { lat = spread_lattice; grid = spread_grid S.grid; old = spread_state S.old; g = S.g; relax = S.relax }

-- an idle place
pub record Idle (i : ℕ) : Type 0 where
  pub low : i ≤ 18
  pub none : idle i ≡ true

-- nineteen parts f that hold the nine parts g, and nothing at the idle places
pub record Spreads (f g : ℕ → ℤ) : Type 0 where
  pub at : (k : ℕ) → k ≤ 8 → f (wide k) ≡ g k
  pub none : (i : ℕ) → Idle i → f i ≡ pos 0

-- t is s among the nineteen places
pub record SpreadOf (s t : State) : Type 0 where
  pub flags : (c : ℕ) → t.flag c ≡ s.flag c
  pub parts : (c : ℕ) → Spreads (t.part c) (s.part c)
  pub masses : (c : ℕ) → t.mass c ≡ s.mass c
  pub fills : (c : ℕ) → t.fill c ≡ s.fill c
  pub carries : t.carry ≡ s.carry
