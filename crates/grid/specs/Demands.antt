-- Demand 3 in definitions: the closed layer, the water, and "reached by accepted steps", over any lattice and grid; and the same over the step's own
-- outcome on a ground. Assumes nothing.
use Rattle.std.specs.Prelude.{◌≡◌, true, not, ◌&&◌, cond, List, ℕ, ◌+◌, ◌≤◌, ◌<◌, ℤ, pos, ◌+ℤ◌, eqb}
use Rattle.whole.specs.Fold.{sum, any_dir}
use Rattle.lattice.specs.Lattice.{V3, Lattice}
use Rattle.lattice.specs.declared.Settings.{Settings}
use Rattle.grid.specs.declared.Sides.{Sides}
use Rattle.grid.specs.Answer.{Answer}
use Rattle.grid.specs.Answer.{Done}
use Rattle.grid.specs.Grid.{Grid, cells_of}
use Rattle.grid.specs.State.{Lent, State, Scene, by_flag, state_of}
use Rattle.grid.specs.Step.{converted, excess, new_flag, next}
use Rattle.grid.specs.Outcome.{good_answer, move_answer}
use Rattle.grid.specs.Ground.{Ground, state_on, scene_on, step_on, second_on}

-- ---- the closed layer

-- outer cells are wall
abbrev pub Walled : Grid → (ℕ → ℕ) → Type 0
Walled G flag = (c : ℕ) → c < G.cells → G.outer c ≡ true → flag c ≡ 3

-- no fluid cell touches an empty one in any direction
abbrev pub Closed : ℕ → Grid → (ℕ → ℕ) → Type 0
Closed q G flag = (c i : ℕ) → c < G.cells → 0 < i → i ≤ q → flag c ≡ 2 → flag (G.near c i) ≡ 0 → ⊥

-- ---- the water

-- water in fluid cells, in interface cells, and the total with the carry
unfoldable pub fluid_water : ℕ → State → ℤ
fluid_water n s = sum n (λ c. by_flag (s.flag c) (pos 0) (pos 0) (s.mass c) (pos 0))

unfoldable pub interface_water : ℕ → State → ℤ
interface_water n s = sum n (λ c. by_flag (s.flag c) (pos 0) (s.mass c) (pos 0) (pos 0))

unfoldable pub water : ℕ → State → ℤ
water n s = fluid_water n s +ℤ interface_water n s +ℤ s.carry

-- the excess of those converted cells that have no interface cell beside them in the new flags
unfoldable pub strayed : Scene → ℤ
strayed S =
    sum S.grid.cells (λ c. cond (converted S c && not (any_dir S.lat.q (λ i. eqb (new_flag S (S.grid.near c i)) 1))) (excess S c) (pos 0))

-- ---- steps

-- all that a step reads
abbrev pub scene : Lattice → Grid → State → V3 → (ℕ → ℤ) → Scene
scene L G s g p = record { lat = L; grid = G; old = s; g = g; relax = p }

-- tests 4 to 8 of a step
unfoldable pub grid_answer : Lattice → Grid → State → V3 → (ℕ → ℤ) → Answer
grid_answer L G s g p = good_answer L G s (move_answer (scene L G s g p))

-- two states that agree on the grid's cells and their parts, and in the carry
pub record Same (q n : ℕ) (s t : State) : Type 0 where
  pub flags : (c : ℕ) → c < n → s.flag c ≡ t.flag c
  pub parts : (c k : ℕ) → c < n → k ≤ q → s.part c k ≡ t.part c k
  pub masses : (c : ℕ) → c < n → s.mass c ≡ t.mass c
  pub fills : (c : ℕ) → c < n → s.fill c ≡ t.fill c
  pub carries : s.carry ≡ t.carry

-- reached by accepted steps, with gravity and relaxation chosen anew for each
pub data Reaches (L : Lattice) (G : Grid) (s : State) : State → Type 0 where
  start : Reaches L G s s
  then : {t u : State} → Reaches L G s t → (g : V3) (p : ℕ → ℤ) → grid_answer L G t g p ≡ Done → Same L.q G.cells (next (scene L G t g p)) u → Reaches L G s u

-- what has strayed into the carry on the way
abbrev pub strays : {L : Lattice} {G : Grid} {s t : State} → Reaches L G s t → ℤ
strays start = pos 0
strays {L = L} {G = G} (then {t} r g p accepted same) = strays r +ℤ strayed (scene L G t g p)

-- ---- the same over the step's own outcome

pub data Reached (G : Ground) (a : Lent) : Lent → Type 0 where
  start : Reached G a a
  then : {b : Lent} → Reached G a b → (g : Settings) (second : Lent) (marks : List ℕ) → step_on G g b second marks ≡ Done → Reached G a (second_on G g b second marks)

abbrev pub strayed_on : {G : Ground} {a b : Lent} → Reached G a b → ℤ
strayed_on start = pos 0
strayed_on {G = G} (then {b} r g second marks accepted) = strayed_on r +ℤ strayed (scene_on G g b)

-- the total of a lent set, and of document 01's grid
abbrev pub water_on : Ground → Lent → ℤ
water_on G a = water G.cells (state_on G a)

unfoldable pub water_of : Sides → Lent → ℤ
water_of s a = water (cells_of s) (state_of 18 a)

-- names every definition of this file: whoever unfolds this computes with all of them
unfoldable pub open-demands : Unit {0}
unfolding fluid_water interface_water water strayed grid_answer water_of
open-demands = tt
