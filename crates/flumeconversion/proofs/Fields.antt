-- The flume's field with the settings and the offsets that the code has: settings with gy = 0, and a list and a number that it knows to be the flume's own.
-- Assumes nothing.
use mathlib.Core.Path.{◌≡◌, sym, subst}
use mathlib.Core.List.{List}
use Prim.Native.Nat.{ℕ}
use lib.IntN.{ℤ, pos}
use lib.ListN.{get_or}
use Rattle.whole.specs.Fold.{tab}
use Rattle.lattice.specs.declared.Settings.{Settings}
use Rattle.grid.specs.State.{Lent}
use Rattle.conversion.proofs.Field.{Field, Sound}
use Rattle.flume.specs.declared.FlumeSides.{FlumeSides}
use Rattle.flume.specs.Flume.{flume_cells, flume_grid}
use Rattle.flume.specs.inner.Offsets.{flume_low, flume_offset}
use Rattle.flume.specs.inner.Spread.{spread_lattice, spread_grid}
use Rattle.nine.specs.inner.Cells.{part_of9}
use Rattle.flumegrid.specs.inner.Ready.{FlumeReady}
use Rattle.flumeconversion.proofs.Flumes as flumes

abbrev pub flume_field : FlumeSides → Settings → Lent → List ℕ → ℕ → Field
flume_field s g a off low = record {
  weights = spread_lattice.weight;
  grid = spread_grid (flume_grid s);
  cells = flume_cells s;
  off = off;
  low = low;
  g = g;
  flags = a.flags;
  part = part_of9 a.parts;
  masses = a.masses;
  fills = a.fills;
  carry = get_or a.carry 0 (pos 0);
}

module _ (s : FlumeSides) (g : Settings) (a : Lent) (r : FlumeReady s (record { p = g.p; gx = g.gx; gz = g.gz; turbulent = g.turbulent }) a) (level : g.gy ≡ pos 0) where
  pub flume-sound : {off : List ℕ} {low : ℕ} → off ≡ tab 19 (flume_offset s) → low ≡ flume_low s → Sound (flume_field s g a off low)
  flume-sound {off} {low} eo el =
      subst (λ (o : List ℕ). Sound (flume_field s g a o low)) (sym eo)
      (subst (λ (l : ℕ). Sound (flume_field s g a (tab 19 (flume_offset s)) l)) (sym el)
      (subst (λ (y : ℤ). Sound (flume_field s (record { p = g.p; gx = g.gx; gy = y; gz = g.gz; turbulent = g.turbulent }) a (tab 19 (flume_offset s)) (flume_low s))) (sym level)
      (flumes.flume-sound s (record { p = g.p; gx = g.gx; gz = g.gz; turbulent = g.turbulent }) a r)))
