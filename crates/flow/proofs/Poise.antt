-- From tests 1 to 6 to what a pass asks, and from that to what a function of one cell asks. Assumes nothing.
use mathlib.Core.Path.{◌≡◌, refl, sym, ap, ◌∙◌, subst}
use mathlib.Core.Bool.{true, false≢true}
use mathlib.Core.List.{List, []}
use Prim.Native.Nat.{ℕ, zero, suc, ◌+◌, ◌-◌, ◌*◌, ◌≤◌, ◌<◌}
use native.Mathlib.Omega.{arith}
use lib.IntN.{ℤ}
use lib.ListN.{get_or}
use Rattle.whole.specs.laws.Machine.{Within}
use Rattle.lattice.specs.Lattice.{d3q19, density}
use Rattle.lattice.specs.declared.Settings.{Settings}
use Rattle.lattice.proofs.Fills.{fill-most}
use Rattle.grid.specs.declared.Sides.{Sides}
use Rattle.grid.specs.Grid.{cells_of, grid_of, box}
use Rattle.grid.specs.State.{Lent, lent, liquid, state_of}
use Rattle.grid.specs.Step.{fill_for}
use Rattle.grid.specs.Good.{dry_good, interface_good, fluid_good, fill_good, cell_good}
use Rattle.grid.specs.inner.Between.{Ready, Poised}
use Rattle.grid.specs.inner.Passes.{Inner}
use Rattle.grid.specs.inner.Sight.{Body, Bodied}
use Rattle.grid.proofs.Beside.{Offsets, place_is}
use Rattle.grid.proofs.Coordinates.{inner_of}
use Rattle.grid.proofs.Laid.{inner}
use Rattle.grid.proofs.Prepared.{ready-sound, ready-cell, cell-body, cell-mass, cell-fill}
use Rattle.arrivals.specs.inner.Trade.{Fills}
use Rattle.grid.proofs.Inside.{few}

-- no rule of a cell reads the carry
alone : (a : Lent) (c : ℕ) → cell_good d3q19 (state_of 18 a) c ≡ cell_good d3q19 (state_of 18 (lent a.flags a.parts a.masses a.fills [])) c
unfolding state_of cell_good dry_good interface_good fluid_good fill_good
alone a c = refl

pub poised : (s : Sides) (g : Settings) (a : Lent) → Ready s g a → Poised s g (lent a.flags a.parts a.masses a.fills [])
unfolding state_of grid_of box cells_of d3q19
poised s g a r = record {
  sides = r.sides;
  settings = r.settings;
  flags = r.sized.flags;
  parts = r.sized.parts;
  masses = r.sized.masses;
  fills = r.sized.fills;
  flagged = (ready-sound s g a r).flagged;
  walled = (ready-sound s g a r).walled;
  closed = (ready-sound s g a r).closed;
  cells = λ c h. sym (alone a c) ∙ ready-cell s g a r c h;
}

-- no fill is above 65,536
pub fill-cases : (f : ℕ) (m ρ : ℤ) → fill_for f m ρ ≤ 65536
unfolding fill_for
fill-cases zero m ρ = omega arith
fill-cases (suc zero) m ρ = fill-most m ρ
fill-cases (suc (suc zero)) m ρ = omega arith
fill-cases (suc (suc (suc n))) m ρ = omega arith

-- ---- one cell of a set that is poised
module _ (s : Sides) (g : Settings) (a : Lent) (r : Poised s g a) where
  pub poised-body : (c : ℕ) → c < cells_of s → liquid ((state_of 18 a).flag c) ≡ true → Body ((state_of 18 a).part c)
  poised-body = cell-body (cells_of s) (state_of 18 a) r.cells

  pub poised-mass : (c : ℕ) → c < cells_of s → (state_of 18 a).flag c ≡ 1 → Within ((state_of 18 a).mass c) 2359296
  poised-mass = cell-mass (cells_of s) (state_of 18 a) r.cells

  pub poised-fill : (c : ℕ) → c < cells_of s → (state_of 18 a).fill c ≡ fill_for ((state_of 18 a).flag c) ((state_of 18 a).mass c) (density d3q19 ((state_of 18 a).part c))
  poised-fill = cell-fill (cells_of s) (state_of 18 a) r.cells

  pub fill-in : (c : ℕ) → c < cells_of s → (state_of 18 a).fill c ≤ 65536
  fill-in c h = omega (arith, poised-fill c h, fill-cases ((state_of 18 a).flag c) ((state_of 18 a).mass c) (density d3q19 ((state_of 18 a).part c)))

  -- ---- what a function of one cell asks
  pub poised-fills : Fills a.flags a.fills
  unfolding state_of
  poised-fills = record { count = r.fills ∙ sym r.flags; low = λ c h. fill-in c (subst (λ (n : ℕ). c < n) r.flags h) }

  pub poised-bodied : Bodied a.flags a.parts
  unfolding state_of
  poised-bodied = record {
    count = r.parts ∙ ap (λ (n : ℕ). 19 * n) (sym r.flags);
    few = subst (λ (n : ℕ). n ≤ 262144) (sym r.flags) (few s r.sides);
    body = λ c h l. poised-body c (subst (λ (n : ℕ). c < n) r.flags h) l;
  }

  -- a cell that is no wall is inner
  pub poised-inner : (c : ℕ) → c < cells_of s → ((state_of 18 a).flag c ≡ 3 → ⊥) → Inner s c
  unfolding grid_of box cells_of
  poised-inner c h n = inner_of s c r.sides h (inner (grid_of s) (state_of 18 a).flag r.walled c h n)

  pub liquid-inner : (c : ℕ) → c < cells_of s → liquid ((state_of 18 a).flag c) ≡ true → Inner s c
  liquid-inner c h l = poised-inner c h (λ w. false≢true (sym (ap liquid w) ∙ l))

  -- and its neighbours are where the offsets say
  pub placed : {off : List ℕ} {low : ℕ} → Offsets s off low → (c : ℕ) → c < cells_of s → liquid ((state_of 18 a).flag c) ≡ true → (i : ℕ) → i < 19 → c - low + get_or off i 0 ≡ (grid_of s).near c i
  placed o c h l i k = place_is o c (liquid-inner c h l) i k
