-- A good state, rule by rule, and the lowest place where a rule breaks: what refusals 4, 5 and 6 say. Assumes nothing.
use Rattle.std.specs.Prelude.{ℕ, suc, Bool, ◌&&◌, ◌||◌, not, cond, pos, ltb, eqb}
use Rattle.whole.specs.Fold.{all, first}
use Rattle.lattice.specs.Lattice.{Lattice, density}
use Rattle.lattice.specs.Cell.{mass_good, carry_good}
use Rattle.lattice.specs.Body.{eq_z, body_good}
use Rattle.grid.specs.Grid.{Grid}
use Rattle.grid.specs.State.{State, by_flag}
use Rattle.grid.specs.Step.{fill_for}
use Rattle.whole.specs.Fold.{any_dir}

-- ---- 4: flag above 3, or outer cell not wall

unfoldable pub flag_good : Grid → (ℕ → ℕ) → ℕ → Bool
flag_good G flag c = ltb (flag c) 4 && (not (G.outer c) || eqb (flag c) 3)

unfoldable pub bad_flag : Grid → (ℕ → ℕ) → ℕ
bad_flag G flag = first G.cells (λ c. not (flag_good G flag c))

-- ---- 5: fluid beside empty

unfoldable pub open_fluid : ℕ → Grid → (ℕ → ℕ) → ℕ → Bool
open_fluid q G flag c = eqb (flag c) 2 && any_dir q (λ i. eqb (flag (G.near c i)) 0)

unfoldable pub bad_fluid : ℕ → Grid → (ℕ → ℕ) → ℕ
bad_fluid q G flag = first G.cells (open_fluid q G flag)

-- ---- 6: the other rules

-- wall and empty cells have mass and parts all 0
unfoldable pub dry_good : Lattice → State → ℕ → Bool
dry_good L s c = eq_z (s.mass c) (pos 0) && all (suc L.q) (λ k. eq_z (s.part c k) (pos 0))

-- interface mass in its range, fluid mass = ρ
unfoldable pub interface_good : Lattice → State → ℕ → Bool
interface_good L s c = body_good L (s.part c) && mass_good (s.mass c)

unfoldable pub fluid_good : Lattice → State → ℕ → Bool
fluid_good L s c = body_good L (s.part c) && eq_z (s.mass c) (density L (s.part c))

-- every fill is as stage 7 has it
unfoldable pub fill_good : Lattice → State → ℕ → Bool
fill_good L s c = eqb (s.fill c) (fill_for (s.flag c) (s.mass c) (density L (s.part c)))

unfoldable pub cell_good : Lattice → State → ℕ → Bool
cell_good L s c = by_flag (s.flag c) (dry_good L s c) (interface_good L s c) (fluid_good L s c) (dry_good L s c) && fill_good L s c

-- the lowest cell that breaks one of these, N for the carry alone; above N where none is broken
unfoldable pub bad_rule : Lattice → ℕ → State → ℕ
bad_rule L n s = first (suc n) (λ c. cond (eqb c n) (not (carry_good s.carry)) (not (cell_good L s c)))

-- names every definition of this file: whoever unfolds this computes with all of them
unfoldable pub open-good : Unit {0}
unfolding flag_good bad_flag open_fluid bad_fluid dry_good body_good interface_good fluid_good fill_good cell_good bad_rule
open-good = tt
