-- The relaxation that the code takes for a cell, from its parts, density and momentum: stage 4's in either mode. Assumes nothing.
use Rattle.std.specs.Prelude.{ℕ, Bool, true, false, ℤ}
use Rattle.lattice.specs.Lattice.{V3, Lattice}
use Rattle.turbulence.specs.Turbulence.{own_relaxation}

unfoldable pub relaxed_by : Bool → Lattice → ℤ → V3 → ℤ → (ℕ → ℤ) → ℤ
relaxed_by false L ρ j p f = p
relaxed_by true L ρ j p f = own_relaxation L ρ j p f
