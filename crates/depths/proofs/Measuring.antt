-- The columns of a grid that passed its tests can be measured: no fill is above 65,536. Assumes nothing.
use mathlib.Core.Path.{◌≡◌, sym, subst}
use mathlib.Core.Bool.{true}
use mathlib.Core.List.{List}
use Prim.Native.Nat.{ℕ, zero, suc, ◌≤◌, ◌<◌}
use native.Mathlib.Omega.{arith}
use native.Mathlib.Nat.{le_of_eq}
use borrow.Author.Tests.{eqb-true, le-ltb}
use lib.IntN.{ℤ, pos, nat_abs}
use lib.ListN.{length, get_or}
use lib.Signed.{le_z}
use Rattle.whole.specs.laws.Bools.{and_left, and_right}
use Rattle.whole.specs.laws.Bounds.{abs-below}
use Rattle.whole.specs.Fold.{first}
use Rattle.whole.specs.laws.Order.{le_z-true}
use Rattle.whole.specs.laws.Search.{first-all}
use Rattle.lattice.specs.Lattice.{d3q19, density}
use Rattle.lattice.specs.Cell.{edge_good}
use Rattle.lattice.proofs.Fills.{fill-most}
use Rattle.grid.specs.declared.Sides.{Sides}
use Rattle.grid.specs.Grid.{cell_at, cells_of}
use Rattle.grid.specs.State.{Lent, state_of, by_flag}
use Rattle.grid.specs.Step.{fill_for}
use Rattle.grid.specs.Good.{dry_good, interface_good, fluid_good, fill_good, cell_good}
use Rattle.pumps.proofs.Checked.{Passed}
use Rattle.tunnel.specs.inner.Asks.{InColumn}
use Rattle.tunnel.specs.Depth.{column_at, fill_bad}
use Rattle.tunnel.proofs.Columns.{below_length}
use Rattle.depths.specs.inner.Asks.{Measured}

fill-cases : (f : ℕ) (m ρ : ℤ) → fill_for f m ρ ≤ 65536
unfolding fill_for
fill-cases zero m ρ = omega arith
fill-cases (suc zero) m ρ = fill-most m ρ
fill-cases (suc (suc zero)) m ρ = omega arith
fill-cases (suc (suc (suc n))) m ρ = omega arith

module _ (s : Sides) (a : Lent) where
  full : Passed s a → (c : ℕ) → c < cells_of s → get_or a.fills c 0 ≤ 65536
  unfolding cell_good fill_good state_of
  full p c h =
      let t = state_of 18 a in
      let ρ = density d3q19 (t.part c) in
      let e = eqb-true (t.fill c) (fill_for (t.flag c) (t.mass c) ρ)
      (and_right (by_flag (t.flag c) (dry_good d3q19 t c) (interface_good d3q19 t c) (fluid_good d3q19 t c) (dry_good d3q19 t c)) (fill_good d3q19 t c) (p.cells c h)) in
      omega (arith, e, fill-cases (t.flag c) (t.mass c) ρ)

  pub measured : (edge : ℤ) → Passed s a → edge_good edge ≡ true → Measured s (nat_abs edge) a.flags a.fills
  measured edge p e = record {
    good = p.sides;
    short = abs-below {k = 1} {z = edge} (le_z-true (and_left (le_z (pos 1) edge) (le_z edge (pos 1000)) e)) (le_z-true (and_right (le_z (pos 1) edge) (le_z edge (pos 1000)) e));
    flags-all = p.sized.flags;
    fills-all = p.sized.fills;
    full = full p;
  }

-- ---- what a column's sum asks
module _ {s : Sides} {edge : ℕ} {flags fills : List ℕ} (m : Measured s edge flags fills) {x y : ℕ} (in-x : x < s.nx) (in-y : y < s.ny) where
  pub flags-column : InColumn s (length flags) x y
  flags-column = record { good = m.good; all = m.flags-all; in-x = in-x; in-y = in-y }

  pub fills-column : InColumn s (length fills) x y
  fills-column = record { good = m.good; all = m.fills-all; in-x = in-x; in-y = in-y }

  pub none-bad : s.nz ≤ first s.nz (fill_bad s fills x y)
  unfolding fill_bad
  none-bad = le_of_eq (sym (first-all s.nz (fill_bad s fills x y) (λ z h. le-ltb 65536 (column_at s fills x y z) (m.full (cell_at s.nx s.ny x y z) (subst (λ (n : ℕ). cell_at s.nx s.ny x y z < n) m.fills-all (below_length z fills-column h))))))
