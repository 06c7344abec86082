-- A column's cells lie in the grid; its sums, turn by turn; and its sum of fills stays below 2^24. Assumes nothing.
use mathlib.Core.Path.{◌≡◌, sym, ap, subst}
use mathlib.Core.Bool.{Bool, true, false, ◌&&◌, cond}
use mathlib.Core.List.{List}
use Prim.Native.Nat.{ℕ, ◌+◌, ◌≤◌, ◌<◌}
use native.Mathlib.Numerals.{add-one}
use native.Mathlib.Omega.{arith}
use borrow.Author.Tests.{ltb-false}
use lib.Dec.{ltb}
use Rattle.whole.specs.Fold.{first, all, total}
use Rattle.whole.specs.laws.Search.{first-none}
use Rattle.grid.specs.declared.Sides.{Sides}
use Rattle.grid.specs.Grid.{cell_at, cells_of}
use Rattle.grid.proofs.GoodSides.{good-sides}
use Rattle.tunnel.specs.inner.Asks.{Inside, InColumn}
use Rattle.tunnel.specs.Depth.{column_at, fill_bad, is_wall, open_fill}
use Rattle.tunnel.proofs.Cells.{small}

pub in-column : {s : Sides} {n x y : ℕ} (z : ℕ) → InColumn s n x y → z < s.nz → Inside s x y z
in-column z c h = record { good = c.good; in-x = c.in-x; in-y = c.in-y; in-z = h }

pub below_length : {s : Sides} {n x y : ℕ} (z : ℕ) → InColumn s n x y → z < s.nz → cell_at s.nx s.ny x y z < n
below_length {s} {n} {x} {y} z c h =
    subst (λ (m : ℕ). cell_at s.nx s.ny x y z < m) (sym c.all) (small (in-column z c h)).cell

pub high : {s : Sides} {n x y : ℕ} → InColumn s n x y → s.nz ≤ 128
high {s} c = (good-sides s c.good).z.high

pub few : {s : Sides} {n x y : ℕ} → InColumn s n x y → n ≤ 262144
unfolding cells_of
few {s} c = omega (arith, c.all, (good-sides s c.good).all)

-- ---- one more turn
pub all_more : (n : ℕ) (f : ℕ → Bool) → all (n + 1) f ≡ (all n f && f n)
unfolding all
all_more n f = ap (λ (m : ℕ). all m f) (add-one n)

pub total-more : (n : ℕ) (f : ℕ → ℕ) → total (n + 1) f ≡ total n f + f n
unfolding total
total-more n f = ap (λ (m : ℕ). total m f) (add-one n)

-- ---- a fill that passed its test
part-le : (wall : Bool) (fill : ℕ) → ltb 65536 fill ≡ false → cond wall 0 fill ≤ 65536
part-le true fill h = omega arith
part-le false fill h = ltb-false 65536 fill h

pub open-le : (s : Sides) (flags fills : List ℕ) (x y z : ℕ) → s.nz ≤ first s.nz (fill_bad s fills x y) → z < s.nz
    → open_fill s flags fills x y z ≤ 65536
unfolding open_fill fill_bad
open-le s flags fills x y z e h = part-le (is_wall s flags x y z) (column_at s fills x y z) (first-none s.nz (fill_bad s fills x y) e z h)
