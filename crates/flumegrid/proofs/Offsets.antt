-- The neighbours of a flume's cells by offsets, among the nineteen places: for a cell from the lowest inner one on, (c − low) + offset i is its neighbour i;
-- a cell that is not in the outer layer has all its neighbours, and each leads back. Assumes nothing.
use mathlib.Core.Path.{◌≡◌, sym, ◌∙◌, subst}
use mathlib.Core.Bool.{true, false}
use mathlib.Core.List.{[], ◌∷◌}
use Prim.Native.Nat.{ℕ, zero, suc, ◌+◌, ◌-◌, ◌*◌, ◌/◌, ◌%◌, ◌≤◌, ◌<◌}
use native.Mathlib.Nat.{mod-lt, mod-add-div, mul-le-mul_left, div-lt_iff_lt-mul, mul_comm, le_of_suc-le-suc}
use native.Mathlib.Omega.{arith}
use lib.ListN.{get_or}
use Rattle.whole.specs.laws.Bools.{or-false}
use Rattle.whole.specs.Fold.{tab, open-fold, Dir}
use Rattle.whole.specs.laws.Tab.{get_or-tab}
use Rattle.whole.specs.laws.Search.{as-dir}
use Rattle.lattice.specs.Lattice.{pair_opp, d3q19, open-lattice}
use Rattle.grid.specs.Grid.{Grid, at_end, flume, toward}
use Rattle.grid.specs.inner.Passes.{Reaching, Amid}
use Rattle.grid.proofs.Laid.{Laid}
use Rattle.grid.proofs.Offsets.{listed}
use Rattle.flume.specs.declared.FlumeSides.{FlumeSides}
use Rattle.flume.specs.Flume.{flume_sides_good, flume_cells, flume_grid}
use Rattle.flume.specs.inner.Offsets.{flume_low, flume_offset}
use Rattle.flume.specs.inner.Spread.{wide, narrow, idle, spread, spread_lattice, spread_grid}
use Rattle.flume.proofs.Places.{by-eight, by-idle, at_places, spread_none}
use Rattle.flume.proofs.Bridge.{spread-laid}
use Rattle.flume.proofs.Demands.{flume-laid}
use Rattle.flumegrid.proofs.GoodSides.{good-sides, few}
use Rattle.grid.proofs.Coordinates.{between}

-- the flume's grid among the nineteen places
abbrev pub wide_grid : FlumeSides → Grid
wide_grid s = spread_grid (flume_grid s)

-- the table that the code lists: each direction's neighbour of the cell at (1, 1), and that cell at the idle places
pub table : (s : FlumeSides) (low right left up down right-up left_down right-down left_up : ℕ)
    → low ≡ 1 + s.nx * 1 → right ≡ 2 + s.nx * 1 → left ≡ 0 + s.nx * 1 → up ≡ 1 + s.nx * 2 → down ≡ 1 + s.nx * 0
    → right-up ≡ 2 + s.nx * 2 → left_down ≡ 0 + s.nx * 0 → right-down ≡ 2 + s.nx * 0 → left_up ≡ 0 + s.nx * 2
    → low ∷ right ∷ left ∷ low ∷ low ∷ up ∷ down ∷ low ∷ low ∷ low ∷ low ∷ low ∷ low ∷ low ∷ low ∷ right-up ∷ left_down ∷ right-down ∷ left_up ∷ [] ≡ tab 19 (flume_offset s)
unfolding flume_offset flume_low flume_grid flume toward spread narrow idle open-lattice open-fold
table s low right left up down right-up left_down right-down left_up a b c d e f g h i = listed _ _ (omega arith)

-- direction 0 leads to the cell itself
pub near-self : (s : FlumeSides) (c : ℕ) → (wide_grid s).near c 0 ≡ c
unfolding flume_grid flume toward spread narrow idle open-lattice
near-self s c = omega arith

-- a step is so much ahead and so much back, neither above the lowest inner cell
record Step (s : FlumeSides) (i : ℕ) : Type 0 where
  ahead : ℕ
  back : ℕ
  ahead-low : ahead ≤ flume_low s
  back_low : back ≤ flume_low s
  is : (c : ℕ) → (wide_grid s).near c i ≡ c + ahead - back

step : (s : FlumeSides) (i : ℕ) → i < 19 → Step s i
unfolding flume_grid flume toward spread narrow idle open-lattice flume_low wide
step s zero h = record { ahead = 0; back = 0; ahead-low = omega arith; back_low = omega arith; is = λ c. near-self s c ∙ omega arith }
step s (suc a) h =
    at_places (Step s)
    (by-eight (λ k. Step s (wide k))
    (record { ahead = 1; back = 0; ahead-low = omega arith; back_low = omega arith; is = λ c. omega arith })
    (record { ahead = 0; back = 1; ahead-low = omega arith; back_low = omega arith; is = λ c. omega arith })
    (record { ahead = s.nx; back = 0; ahead-low = omega arith; back_low = omega arith; is = λ c. omega arith })
    (record { ahead = 0; back = s.nx; ahead-low = omega arith; back_low = omega arith; is = λ c. omega arith })
    (record { ahead = 1 + s.nx; back = 0; ahead-low = omega arith; back_low = omega arith; is = λ c. omega arith })
    (record { ahead = 0; back = 1 + s.nx; ahead-low = omega arith; back_low = omega arith; is = λ c. omega arith })
    (record { ahead = 1; back = s.nx; ahead-low = omega arith; back_low = omega arith; is = λ c. omega arith })
    (record { ahead = s.nx; back = 1; ahead-low = omega arith; back_low = omega arith; is = λ c. omega arith }))
    (λ i n. record { ahead = 0; back = 0; ahead-low = omega arith; back_low = omega arith; is = λ c. spread_none c ((flume_grid s).near c) i n ∙ omega arith })
    (suc a) (as-dir (le_of_suc-le-suc h))

module _ (s : FlumeSides) (c i : ℕ) (g : Amid (flume_cells s) (flume_low s) c) (h : i < 19) where
  -- the place that the code computes is the neighbour's, and a cell
  pub place_is : c - flume_low s + get_or (tab 19 (flume_offset s)) i 0 ≡ (wide_grid s).near c i
  unfolding flume_offset
  place_is =
      let t = step s i h in
      omega (arith, get_or-tab 19 (flume_offset s) 0 i h, t.is c, t.is (flume_low s), t.ahead-low, t.back_low, g.from)

  pub near-low : (wide_grid s).near c i < flume_cells s
  near-low = let t = step s i h in omega (arith, t.is c, t.ahead-low, t.back_low, g.from, g.to)

  pub place-low : c - flume_low s + get_or (tab 19 (flume_offset s)) i 0 < flume_cells s
  place-low = subst (λ (m : ℕ). m < flume_cells s) (sym place_is) near-low

-- the first inner row and the last are two different rows
room : (s : FlumeSides) → flume_sides_good s ≡ true → flume_low s + flume_low s ≤ flume_cells s
unfolding flume_low flume_cells
room s e = let g = good-sides s e in omega (arith, g.x.low, mul-le-mul_left s.nx g.z.low)

pub low-few : (s : FlumeSides) → flume_sides_good s ≡ true → flume_low s ≤ 262144
low-few s e = omega (arith, room s e, few s e)

-- what a pass over the inner cells asks
pub reaching : (s : FlumeSides) → flume_sides_good s ≡ true → Reaching (flume_cells s) (tab 19 (flume_offset s)) (flume_low s)
reaching s e = record { few = few s e; room = room s e; each = λ c i h k l. place-low s c i (record { from = h; to = k }) l }

-- opposite neighbours lie opposite
pub mirrored : (s : FlumeSides) (i : ℕ) → i < 19 → get_or (tab 19 (flume_offset s)) i 0 + get_or (tab 19 (flume_offset s)) (pair_opp i) 0 ≡ flume_low s + flume_low s
unfolding flume_offset flume_low flume_grid flume toward spread narrow idle open-lattice open-fold wide
mirrored s zero h = omega arith
mirrored s (suc a) h =
    at_places P
    (by-eight (λ k. P (wide k)) (omega arith) (omega arith) (omega arith) (omega arith) (omega arith) (omega arith) (omega arith) (omega arith))
    (by-idle P (omega arith) (omega arith) (omega arith) (omega arith) (omega arith) (omega arith) (omega arith) (omega arith) (omega arith) (omega arith))
    (suc a) (as-dir (le_of_suc-le-suc h))
  where
    P : ℕ → Type 0
    P i = get_or (tab 19 (flume_offset s)) i 0 + get_or (tab 19 (flume_offset s)) (pair_opp i) 0 ≡ flume_low s + flume_low s

-- ---- the outer layer

-- a cell that is not in the outer layer has all its neighbours in the grid
pub inner_of : (s : FlumeSides) → flume_sides_good s ≡ true → (c : ℕ) → c < flume_cells s → (flume_grid s).outer c ≡ false → Amid (flume_cells s) (flume_low s) c
unfolding flume_grid flume flume_cells flume_low
inner_of s g c h e =
    let wide : 0 < s.nx = omega (arith, (good-sides s g).x.low) in
    let o = or-false (at_end s.nx (c % s.nx)) (at_end s.nz (c / s.nx)) e in
    let hx = between s.nx (c % s.nx) o.0 (mod-lt c wide) in
    let hz = between s.nz (c / s.nx) o.1 ((div-lt_iff_lt-mul wide).1 (subst (λ (m : ℕ). c < m) (mul_comm s.nx s.nz) h)) in
    record {
      from = omega (arith, mod-add-div c s.nx, hx.0, mul-le-mul_left s.nx hz.0);
      to = omega (arith, mod-add-div c s.nx, hx.1, mul-le-mul_left s.nx hz.1);
    }

-- there and back, in the nineteen places
pub wide-laid : (s : FlumeSides) → Laid spread_lattice (wide_grid s)
wide-laid s = spread-laid (flume_grid s) (flume-laid s)

pub near-back : (s : FlumeSides) (c i : ℕ) → c < flume_cells s → (flume_grid s).outer c ≡ false → Dir 18 i → (wide_grid s).near ((wide_grid s).near c i) (d3q19.opp i) ≡ c
unfolding flume_grid flume flume_cells d3q19
near-back s c i h e d = (wide-laid s).back c i h e d
