-- A step's field: weights, a grid with offsets that lead to its neighbours, settings, and a set whose parts are a function; and what the laws of the conversion
-- ask of it. The box is one field; any lattice in the nineteen places is another. Assumes nothing.
use mathlib.Core.Path.{◌≡◌, refl, sym, subst}
use mathlib.Core.Bool.{true, false}
use mathlib.Core.List.{List, []}
use Prim.Native.Nat.{ℕ, ◌+◌, ◌-◌, ◌≤◌, ◌<◌}
use native.Mathlib.Omega.{arith}
use lib.IntN.{ℤ, pos}
use lib.ListN.{length, get_or}
use Rattle.whole.specs.Fold.{tab, Dir}
use Rattle.whole.specs.laws.Machine.{Within}
use Rattle.lattice.specs.Cell.{carry_good}
use Rattle.lattice.specs.Lattice.{d3q19}
use Rattle.lattice.specs.declared.Settings.{Settings}
use Rattle.grid.specs.declared.Sides.{Sides}
use Rattle.grid.specs.State.{part_of, Lent, Scene, liquid, state_of}
use Rattle.grid.specs.Grid.{Grid, cells_of, grid_of, box}
use Rattle.grid.specs.Outcome.{settings_good}
use Rattle.grid.specs.inner.Between.{Poised}
use Rattle.grid.specs.Demands.{Walled, Closed}
use Rattle.grid.specs.inner.Passes.{Amid, Reaching, low_of, offset_of}
use Rattle.grid.specs.inner.Sight.{weighing, sight, Body}
use Rattle.grid.proofs.Beside.{Offsets, place_is, place-low}
use Rattle.grid.proofs.Box.{grid-laid}
use Rattle.grid.proofs.Coordinates.{inner_of}
use Rattle.grid.proofs.Inside.{few, room, amid-inner, inner-amid}
use Rattle.grid.proofs.Laid.{Laid}
use Rattle.grid.proofs.Offsets.{near-self}
use Rattle.flow.proofs.Onward.{step_on}
use Rattle.flow.proofs.Poise.{poised-body, poised-mass, fill-in}
use Rattle.arrivals.proofs.Spans.{Light, light19}

pub record Field : Type 0 where
  pub weights : ℕ → ℕ
  pub grid : Grid
  pub cells : ℕ
  pub off : List ℕ
  pub low : ℕ
  pub g : Settings
  pub flags : List ℕ
  pub part : ℕ → ℕ → ℤ
  pub masses : List ℤ
  pub fills : List ℕ
  pub carry : ℤ

abbrev pub scene_in : Field → Scene
scene_in F = step_on F.weights F.grid F.g F.flags F.part F.masses F.fills F.carry

-- the same as a function of one cell sees it
abbrev pub sight_in : Field → Scene
sight_in F = sight F.weights F.flags F.part [] F.fills F.off F.low F.g

-- a good state on a grid whose inner cells have their neighbours where the offsets say
pub record Standing (F : Field) : Type 0 where
  pub light : Light F.weights
  pub settings : settings_good F.g ≡ true
  pub cells_are : F.grid.cells ≡ F.cells
  pub few : F.cells ≤ 262144
  pub count : length F.flags ≡ F.cells
  pub fills-count : length F.fills ≡ F.cells
  pub walled : (c : ℕ) → c < F.cells → F.grid.outer c ≡ true → get_or F.flags c 3 ≡ 3
  pub body : (c : ℕ) → c < F.cells → liquid (get_or F.flags c 3) ≡ true → Body (F.part c)
  pub mass : (c : ℕ) → c < F.cells → get_or F.flags c 3 ≡ 1 → Within (get_or F.masses c (pos 0)) 2359296
  pub fill : (c : ℕ) → c < F.cells → get_or F.fills c 0 ≤ 65536
  pub inner : (c : ℕ) → c < F.cells → F.grid.outer c ≡ false → Amid F.cells F.low c
  pub place : (c i : ℕ) → Amid F.cells F.low c → i < 19 → c - F.low + get_or F.off i 0 ≡ F.grid.near c i
  pub near-low : (c i : ℕ) → Amid F.cells F.low c → i < 19 → F.grid.near c i < F.cells
  pub self : (c : ℕ) → F.grid.near c 0 ≡ c
  pub back : (c i : ℕ) → c < F.cells → F.grid.outer c ≡ false → Dir 18 i → F.grid.near (F.grid.near c i) (d3q19.opp i) ≡ c

-- the same with what the passes over all cells ask besides: room between the first and the last inner cell, flags that are flags, the closed layer, the carry
pub record Sound (F : Field) : Type 0 where
  pub stands : Standing F
  pub room : F.low + F.low ≤ F.cells
  pub flagged : (c : ℕ) → c < F.cells → get_or F.flags c 3 < 4
  pub closed : Closed 18 F.grid (λ c. get_or F.flags c 3)
  pub carry-good : carry_good F.carry ≡ true

pub reaching : (F : Field) → Sound F → Reaching F.cells F.off F.low
reaching F v = record { few = v.stands.few; room = v.room; each = λ c i h k l. each c i (record { from = h; to = k }) l }
  where
    each : (c i : ℕ) → Amid F.cells F.low c → i < 19 → c - F.low + get_or F.off i 0 < F.cells
    each c i n l = subst (λ (m : ℕ). m < F.cells) (sym (v.stands.place c i n l)) (v.stands.near-low c i n l)

pub laid : (F : Field) → Standing F → Laid (weighing F.weights) F.grid
unfolding d3q19
laid F r = record {
  cell = λ c i h o d. let k = listed h in subst (λ (n : ℕ). F.grid.near c i < n) (sym r.cells_are) (r.near-low c i (r.inner c k o) (omega (arith, d.most)));
  back = λ c i h o d. r.back c i (listed h) o d;
}
  where
    listed : {c : ℕ} → c < F.grid.cells → c < F.cells
    listed {c} h = subst (λ (n : ℕ). c < n) r.cells_are h

pub walled : (F : Field) → Standing F → Walled F.grid (λ c. get_or F.flags c 3)
walled F r c h o = r.walled c (subst (λ (n : ℕ). c < n) r.cells_are h) o

-- ---- the box
abbrev pub field_of : Sides → Settings → Lent → Field
field_of s g a = record {
  weights = d3q19.weight;
  grid = grid_of s;
  cells = cells_of s;
  off = tab 19 (offset_of s);
  low = low_of s;
  g = g;
  flags = a.flags;
  part = part_of a.parts;
  masses = a.masses;
  fills = a.fills;
  carry = get_or a.carry 0 (pos 0);
}

pub standing : (s : Sides) (g : Settings) (a : Lent) → Poised s g a → Standing (field_of s g a)
unfolding grid_of box cells_of state_of d3q19
standing s g a p = record {
  light = light19;
  settings = p.settings;
  cells_are = refl;
  few = few s p.sides;
  count = p.flags;
  fills-count = p.fills;
  walled = p.walled;
  body = poised-body s g a p;
  mass = poised-mass s g a p;
  fill = fill-in s g a p;
  inner = λ c h e. amid-inner o refl (inner_of s c p.sides h e);
  place = λ c i n l. place_is o c (inner-amid o refl n) i l;
  near-low = λ c i n l. subst (λ (m : ℕ). m < cells_of s) (place_is o c (inner-amid o refl n) i l) (place-low o c (inner-amid o refl n) i l);
  self = near-self s;
  back = (grid-laid s).back;
}
  where
    o : Offsets s (tab 19 (offset_of s)) (low_of s)
    o = record { table = refl; lowest = refl }

-- and with a carry that passed test 6
pub sound : (s : Sides) (g : Settings) (a : Lent) → Poised s g a → carry_good (get_or a.carry 0 (pos 0)) ≡ true → Sound (field_of s g a)
unfolding state_of
sound s g a p k = record { stands = standing s g a p; room = room s p.sides; flagged = p.flagged; closed = p.closed; carry-good = k }
