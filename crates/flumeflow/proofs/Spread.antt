-- In either mode a cell is relaxed alike on the flume's own lattice and among the nineteen places, so that the scene that the passes work on is the flume's own,
-- spread. Assumes nothing.
use mathlib.Core.Path.{◌≡◌, refl}
use mathlib.Core.Bool.{Bool, true, false}
use Prim.Native.Nat.{ℕ}
use lib.IntN.{ℤ}
use Rattle.lattice.specs.Lattice.{V3, d2q9}
use Rattle.lattice.specs.declared.Settings.{Settings}
use Rattle.grid.specs.State.{Lent, State, state_of}
use Rattle.grid.specs.Mode.{own_at, relax_in, before, pull_of, scene_by}
use Rattle.grid.specs.Ground.{scene_on}
use Rattle.flume.specs.declared.FlumeSides.{FlumeSides}
use Rattle.flume.specs.Flume.{flume_grid, flume_ground}
use Rattle.flume.specs.inner.Spread.{spread_lattice, spread_grid, spread_state, spread_scene}
use Rattle.nineturbulence.proofs.Same.{own-in-step}

module _ (s : FlumeSides) (a : Lent) (g : V3) (p : ℤ) where
  abbrev own : State
  own = state_of 8 a

  abbrev wide : State
  wide = spread_state own

  relax-spread : (mode : Bool) (c : ℕ)
      → relax_in mode (before spread_lattice (spread_grid (flume_grid s)) wide.flag wide.part wide.fill g) p c
      ≡ relax_in mode (before d2q9 (flume_grid s) own.flag own.part own.fill g) p c
  unfolding own_at
  relax-spread false c = refl
  relax-spread true c = own-in-step (before d2q9 (flume_grid s) own.flag own.part own.fill g) p c

-- the step's scene among the nineteen places is the flume's own, spread
pub scene-spread : (s : FlumeSides) (g : Settings) (a : Lent)
    → scene_by spread_lattice (spread_grid (flume_grid s)) (spread_state (state_of 8 a)) g ≡ spread_scene (scene_on (flume_ground s) g a)
scene-spread s g a i = record {
  lat = spread_lattice;
  grid = spread_grid (flume_grid s);
  old = spread_state (state_of 8 a);
  g = pull_of g;
  relax = λ c. relax-spread s a (pull_of g) g.p g.turbulent c i;
}
