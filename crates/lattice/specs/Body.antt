-- The formulas of one cell over a lattice: its rules, and all its parts after collision and at their equilibrium. Assumes nothing.
use Rattle.std.specs.Prelude.{ℕ, zero, suc, Bool, false, ◌&&◌, ℤ, pos, negsuc, ◌-ℤ◌, eqb}
use Rattle.whole.specs.Fold.{all, dirs}
use Rattle.lattice.specs.Lattice.{V3, dot, Lattice, density, momentum}
use Rattle.lattice.specs.Cell.{part_good, dense, slow, quad, relaxed, cut_equilibrium}

-- each liquid cell has parts, ρ and 9·|j|² in their ranges
unfoldable pub body_good : Lattice → (ℕ → ℤ) → Bool
body_good L f = all (suc L.q) (λ k. part_good (f k)) && dense (density L f) && slow (density L f) (dot (momentum L f) (momentum L f))

-- equal whole numbers
abbrev pub eq_z : ℤ → ℤ → Bool
eq_z (pos a) (pos b) = eqb a b
eq_z (pos a) (negsuc b) = false
eq_z (negsuc a) (pos b) = false
eq_z (negsuc a) (negsuc b) = eqb a b

-- ---- all parts at once, of a cell with density ρ and momentum j

-- stage 4: part i of 1..q relaxed; part 0 is ρ less the others
unfoldable pub relaxed_dir : Lattice → ℤ → V3 → ℤ → (ℕ → ℤ) → ℕ → ℤ
relaxed_dir L ρ j p f i = relaxed p (L.weight i) (quad ρ (dot (L.e i) j) (dot j j)) ρ (f i)

unfoldable pub collided_part : Lattice → ℤ → V3 → ℤ → (ℕ → ℤ) → ℕ → ℤ
collided_part L ρ j p f zero = ρ -ℤ dirs L.q (relaxed_dir L ρ j p f)
collided_part L ρ j p f (suc a) = relaxed_dir L ρ j p f (suc a)

-- stage 5: the parts of a new interface cell
unfoldable pub equilibrium_dir : Lattice → ℤ → V3 → ℕ → ℤ
equilibrium_dir L ρ j i = cut_equilibrium (L.weight i) (quad ρ (dot (L.e i) j) (dot j j)) ρ

unfoldable pub equilibrium_part : Lattice → ℤ → V3 → ℕ → ℤ
equilibrium_part L ρ j zero = ρ -ℤ dirs L.q (equilibrium_dir L ρ j)
equilibrium_part L ρ j (suc a) = equilibrium_dir L ρ j (suc a)

-- names every definition of this file: whoever unfolds this computes with all of them
unfoldable pub open-body : Unit {0}
unfolding body_good relaxed_dir collided_part equilibrium_dir equilibrium_part
open-body = tt
