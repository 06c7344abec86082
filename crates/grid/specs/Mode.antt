-- The relaxation p of each cell of a step: the settings' own p, or in the turbulent mode one of the cell's own. Assumes nothing.
use Rattle.std.specs.Prelude.{ℕ, Bool, true, false, ℤ, pos}
use Rattle.lattice.specs.Lattice.{V3, Lattice}
use Rattle.lattice.specs.declared.Settings.{Settings}
use Rattle.turbulence.specs.Turbulence.{own_relaxation}
use Rattle.grid.specs.Grid.{Grid}
use Rattle.grid.specs.State.{State, Scene}
use Rattle.grid.specs.Step.{streamed, streamed_density, streamed_momentum}

-- own p of cell c, where the settings have p: from what stages 1 to 3 make of it
unfoldable pub own_at : Scene → ℤ → ℕ → ℤ
own_at S p c = own_relaxation S.lat (streamed_density S c) (streamed_momentum S c) p (streamed S c)

-- in the plain mode, and in the turbulent one
abbrev pub relax_in : Bool → Scene → ℤ → ℕ → ℤ
relax_in false S p c = p
relax_in true S p c = own_at S p c

-- a step's gravity
abbrev pub pull_of : Settings → V3
pull_of g = record { x = g.gx; y = g.gy; z = g.gz }

-- all that stages 1 and 3 read: flags, parts, fills and gravity, and neither masses nor carry nor any relaxation
abbrev pub before : Lattice → Grid → (ℕ → ℕ) → (ℕ → ℕ → ℤ) → (ℕ → ℕ) → V3 → Scene
before L G flag part fill g = record {
  lat = L;
  grid = G;
  old = record { flag = flag; part = part; mass = λ c. pos 0; fill = fill; carry = pos 0 };
  g = g;
  relax = λ c. pos 0;
}

-- all that a step reads: a state, gravity, and the relaxation of each cell in the mode that is asked for
abbrev pub scene_by : Lattice → Grid → State → Settings → Scene
scene_by L G s g = record {
  lat = L;
  grid = G;
  old = s;
  g = pull_of g;
  relax = relax_in g.turbulent (before L G s.flag s.part s.fill (pull_of g)) g.p;
}

-- names every definition of this file: whoever unfolds this computes with all of them
unfoldable pub open-mode : Unit {0}
unfolding own_at
open-mode = tt
