-- From what pass 1 asks of a flume's set to what a function of one cell asks, and from the step's grid to offsets. Assumes nothing.
use mathlib.Core.Path.{◌≡◌, refl, sym, ap, ap₂, ◌∙◌, subst}
use mathlib.Core.Bool.{true, false≢true}
use mathlib.Core.List.{List, []}
use Prim.Native.Nat.{ℕ, ◌+◌, ◌-◌, ◌*◌, ◌≤◌, ◌<◌}
use native.Mathlib.Omega.{arith}
use lib.IntN.{ℤ, pos}
use lib.ListN.{length, get_or}
use Rattle.whole.specs.Fold.{tab, Dir}
use Rattle.lattice.specs.Lattice.{pair_opp, d3q19, density, momentum}
use Rattle.lattice.specs.Body.{body_good}
use Rattle.lattice.specs.declared.Settings.{Settings}
use Rattle.grid.specs.State.{lent, State, liquid, state_of}
use Rattle.grid.specs.Good.{dry_good, interface_good, fluid_good, fill_good, cell_good}
use Rattle.grid.specs.Grid.{flume}
use Rattle.grid.specs.Outcome.{settings_good}
use Rattle.grid.specs.inner.Passes.{Amid}
use Rattle.grid.specs.inner.Sight.{Around}
use Rattle.grid.proofs.Laid.{inner}
use Rattle.grid.proofs.Prepared.{cell-body, cell-mass, cell-fill}
use Rattle.arrivals.specs.inner.Sources.{Mirrored, Immersed}
use Rattle.flow.proofs.Poise.{fill-cases}
use Rattle.flume.specs.declared.FlumeSides.{FlumeSides}
use Rattle.flume.specs.declared.FlumeSettings.{FlumeSettings}
use Rattle.flume.specs.Flume.{flume_cells, flume_grid}
use Rattle.flume.specs.inner.Offsets.{flume_low, flume_offset}
use Rattle.flume.specs.inner.Spread.{spread_lattice, spread_grid, SpreadOf}
use Rattle.flume.proofs.Bridge.{cell-good-same}
use Rattle.flume.proofs.Places.{at_places, spread_at, spread_none}
use Rattle.nine.specs.inner.Cells.{part_of9}
use Rattle.flumegrid.specs.inner.Ready.{FlumePoised}
use Rattle.flumegrid.proofs.GoodSides.{few}
use Rattle.flumegrid.proofs.Offsets.{near-self, place_is, inner_of}
use Rattle.flumegrid.proofs.Offsets as flumegrid
use Rattle.flumearrivals.specs.inner.Seen.{Bodied9, Traders9}
use Rattle.flumepasses.specs.inner.Flowed.{along_settings}
use Rattle.flumearrivals.proofs.Nines.{part-at, part_none}

-- the box's settings with gy = 0
pub settings-good : (s : FlumeSides) (g : Settings) {flags : List ℕ} {parts masses : List ℤ} {fills : List ℕ} → FlumePoised s (along_settings g) (lent flags parts masses fills []) → g.gy ≡ pos 0
    → settings_good g ≡ true
settings-good s g r e = ap (λ (y : ℤ). settings_good (record { p = g.p; gx = g.gx; gy = y; gz = g.gz; turbulent = g.turbulent })) e ∙ r.settings

-- no rule of a cell reads a weight
unweighed : (t : State) (c : ℕ) → cell_good d3q19 t c ≡ cell_good spread_lattice t c
unfolding cell_good dry_good interface_good fluid_good fill_good body_good density momentum
unweighed t c = refl

-- ---- one cell of a set that is poised
module _ (s : FlumeSides) (h : FlumeSettings) (flags : List ℕ) (parts masses : List ℤ) (fills : List ℕ) (r : FlumePoised s h (lent flags parts masses fills [])) where
  -- its state among the nineteen places
  abbrev wide_state : State
  wide_state = record { flag = λ c. get_or flags c 3; part = part_of9 parts; mass = λ c. get_or masses c (pos 0); fill = λ c. get_or fills c 0; carry = pos 0 }

  spread-it : SpreadOf (state_of 8 (lent flags parts masses fills [])) wide_state
  unfolding state_of
  spread-it = record {
    flags = λ c. refl;
    parts = λ c. record { at = λ k l. part-at parts c k (omega arith); none = part_none parts c };
    masses = λ c. refl;
    fills = λ c. refl;
    carries = refl;
  }

  good : (c : ℕ) → c < flume_cells s → cell_good d3q19 wide_state c ≡ true
  good c l = unweighed wide_state c ∙ cell-good-same (state_of 8 (lent flags parts masses fills [])) wide_state spread-it c ∙ r.cells c l

  is-cell : {c : ℕ} → c < length flags → c < flume_cells s
  is-cell {c} l = subst (λ (n : ℕ). c < n) r.flags l

  pub bodied : Bodied9 flags parts
  bodied = record {
    count = r.parts ∙ ap (λ (n : ℕ). 9 * n) (sym r.flags);
    bodies = record {
      few = subst (λ (n : ℕ). n ≤ 262144) (sym r.flags) (few s r.sides);
      body = λ c l w. cell-body (flume_cells s) wide_state good c (is-cell l) w;
    };
  }

  pub traders : Traders9 flags parts masses fills
  traders = record {
    bodied = bodied;
    masses-good = record { count = r.masses ∙ sym r.flags; low = λ c l f. cell-mass (flume_cells s) wide_state good c (is-cell l) f };
    fills-good = record {
      count = r.fills ∙ sym r.flags;
      low = λ c l. omega (arith, cell-fill (flume_cells s) wide_state good c (is-cell l), fill-cases (get_or flags c 3) (get_or masses c (pos 0)) (density d3q19 (part_of9 parts c)));
    };
  }

  -- a liquid cell is inner
  pub liquid-inner : (c : ℕ) → c < flume_cells s → liquid (get_or flags c 3) ≡ true → Amid (flume_cells s) (flume_low s) c
  unfolding state_of flume_grid flume flume_cells
  liquid-inner c l w = inner_of s r.sides c l (inner (flume_grid s) (state_of 8 (lent flags parts masses fills [])).flag r.walled c l (λ e. false≢true (sym (ap liquid e) ∙ w)))

-- ---- the offsets that the code lists
module _ (s : FlumeSides) (off : List ℕ) (low : ℕ) (t : off ≡ tab 19 (flume_offset s)) (o : low ≡ flume_low s) where
  pub mirrored : low ≤ 262144 → Mirrored off low
  mirrored few = record {
    pair = λ i h. subst (λ (f : List ℕ). get_or f i 0 + get_or f (pair_opp i) 0 ≡ low + low) (sym t) (flumegrid.mirrored s i h ∙ ap₂ (λ (x y : ℕ). x + y) (sym o) (sym o));
    few = few;
  }

  module _ (c : ℕ) (g : Amid (flume_cells s) (flume_low s) c) where
    pub placed : (i : ℕ) → i < 19 → c - low + get_or off i 0 ≡ (spread_grid (flume_grid s)).near c i
    placed i h = ap₂ (λ (n : ℕ) (f : List ℕ). c - n + get_or f i 0) o t ∙ place_is s c i g h

    -- an inner cell has its neighbours around it
    pub around : Around (flume_cells s) off low c
    around = record {
      is-cell = omega (arith, g.to);
      from = omega (arith, g.from, o);
      each = λ i h. subst (λ (n : ℕ). n < flume_cells s) (sym (placed i h)) (flumegrid.near-low s c i g h);
      self = placed 0 (omega arith) ∙ near-self s c;
    }

    -- a fluid cell whose neighbours are all liquid, as pass 0 marks it
    pub immersed : (flags : List ℕ) → get_or flags c 3 ≡ 2 → ((k : ℕ) → Dir 8 k → liquid (get_or flags ((flume_grid s).near c k) 3) ≡ true) → Immersed flags off low c
    immersed flags fluid near = record { fluid = fluid; each = λ i z h. subst (λ (n : ℕ). liquid (get_or flags n 3) ≡ true) (sym (placed i h)) (wet i (record { some = z; most = omega arith })) }
      where
        wet : (i : ℕ) → Dir 18 i → liquid (get_or flags ((spread_grid (flume_grid s)).near c i) 3) ≡ true
        wet =
            at_places (λ i. liquid (get_or flags ((spread_grid (flume_grid s)).near c i) 3) ≡ true)
            (λ k d. ap (λ (n : ℕ). liquid (get_or flags n 3)) (spread_at c ((flume_grid s).near c) k d.most) ∙ near k d)
            (λ i n. ap (λ (m : ℕ). liquid (get_or flags m 3)) (spread_none c ((flume_grid s).near c) i n) ∙ ap liquid fluid)
