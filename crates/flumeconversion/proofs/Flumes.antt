-- The flume is a field: its nine directions among the nineteen places, its offsets, its stored parts at their places. A set that is ready is a sound one, and
-- the field's scene is the flume's own, spread. So the laws of a field serve the flume. Assumes nothing.
use mathlib.Core.Path.{◌≡◌, refl}
use mathlib.Core.List.{[]}
use lib.IntN.{pos}
use lib.ListN.{get_or}
use Rattle.whole.specs.Fold.{tab}
use Rattle.grid.specs.Grid.{flume}
use Rattle.grid.specs.State.{Lent, lent, state_of}
use Rattle.flume.specs.declared.FlumeSides.{FlumeSides}
use Rattle.flume.specs.declared.FlumeSettings.{FlumeSettings}
use Rattle.flume.specs.Flume.{flume_cells, flume_grid, level_settings}
use Rattle.flume.specs.inner.Offsets.{flume_low, flume_offset}
use Rattle.flume.specs.Outcome.{flume_scene}
use Rattle.flume.specs.inner.Spread.{spread_lattice, spread_grid, spread_scene}
use Rattle.nine.specs.inner.Cells.{part_of9}
use Rattle.flumegrid.specs.inner.Ready.{FlumeReady, FlumePoised}
use Rattle.flumegrid.proofs.GoodSides.{few}
use Rattle.flumegrid.proofs.Offsets.{near-self, place_is, near-low, reaching, inner_of, near-back}
use Rattle.flumegrid.proofs.Poise.{poised, ready-carry, body, mass, fill, flagged, walled, closed}
use Rattle.flumearrivals.proofs.Nines.{light9}
use Rattle.flumeflow.proofs.Spread.{scene-spread}
use Rattle.conversion.proofs.Field.{Field, scene_in, Standing, Sound}

abbrev pub flume_field : FlumeSides → FlumeSettings → Lent → Field
flume_field s g a = record {
  weights = spread_lattice.weight;
  grid = spread_grid (flume_grid s);
  cells = flume_cells s;
  off = tab 19 (flume_offset s);
  low = flume_low s;
  g = level_settings g;
  flags = a.flags;
  part = part_of9 a.parts;
  masses = a.masses;
  fills = a.fills;
  carry = get_or a.carry 0 (pos 0);
}

pub flume-scene : (s : FlumeSides) (g : FlumeSettings) (a : Lent) → scene_in (flume_field s g a) ≡ spread_scene (flume_scene s g a)
unfolding flume_scene state_of part_of9
flume-scene s g a = scene-spread s (level_settings g) a

module _ (s : FlumeSides) (g : FlumeSettings) (a : Lent) where
  -- whatever the carry: no rule of a cell reads it
  pub flume-standing : FlumePoised s g (lent a.flags a.parts a.masses a.fills []) → Standing (flume_field s g a)
  unfolding flume_grid flume flume_cells
  flume-standing p = record {
    light = light9;
    settings = p.settings;
    cells_are = refl;
    few = few s p.sides;
    count = p.flags;
    fills-count = p.fills;
    walled = walled s g (lent a.flags a.parts a.masses a.fills []) p;
    body = body s g (lent a.flags a.parts a.masses a.fills []) p;
    mass = mass s g (lent a.flags a.parts a.masses a.fills []) p;
    fill = fill s g (lent a.flags a.parts a.masses a.fills []) p;
    inner = λ c h o. inner_of s p.sides c h o;
    place = place_is s;
    near-low = near-low s;
    self = near-self s;
    back = near-back s;
  }

  pub flume-sound : FlumeReady s g a → Sound (flume_field s g a)
  flume-sound r =
      let p = poised s g a r in
      record {
        stands = flume-standing p;
        room = (reaching s r.sides).room;
        flagged = flagged s g (lent a.flags a.parts a.masses a.fills []) p;
        closed = closed s g (lent a.flags a.parts a.masses a.fills []) p;
        carry-good = ready-carry s g a r;
      }
