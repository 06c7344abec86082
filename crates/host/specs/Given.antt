-- What the layers take, from the numbers that a call is given. Assumes nothing.
use Rattle.std.specs.Prelude.{ℕ, Bool, false, ℤ}
use Rattle.lattice.specs.declared.Settings.{Settings}
use Rattle.grid.specs.declared.Sides.{Sides}

abbrev pub sides_of : ℕ → ℕ → ℕ → Sides
sides_of nx ny nz = record { nx = nx; ny = ny; nz = nz }

-- in a mode, and in the plain one, for a call that has none
abbrev pub settings_in : Bool → ℤ → ℤ → ℤ → ℤ → Settings
settings_in turbulent p gx gy gz = record { p = p; gx = gx; gy = gy; gz = gz; turbulent = turbulent }

abbrev pub settings_of : ℤ → ℤ → ℤ → ℤ → Settings
settings_of p gx gy gz = settings_in false p gx gy gz
