-- From the layer to all cells: the flags from the last cell down, and that they are the invert's. Assumes nothing.
use mathlib.Core.Path.{◌≡◌, sym, ap, ◌∙◌, subst}
use mathlib.Core.Logic.{◌⊎◌, ⊎_elim}
use mathlib.Core.Bool.{Bool, true, false, cond}
use mathlib.Core.List.{List}
use Prim.Native.Nat.{ℕ, zero, suc, ◌+◌, ◌-◌, ◌*◌, ◌/◌, ◌%◌, ◌≤◌, ◌<◌}
use native.Mathlib.Nat.{mul-le-mul, mod-le, eq-or-lt_of_le}
use native.Mathlib.Numerals.{add-one}
use native.Mathlib.Omega.{arith}
use borrow.Author.Tests.{ne_eqb}
use lib.Dec.{ltb, eqb}
use lib.ListN.{length, get_or, set, length-set}
use lib.Seq.{ext_get_or, get_or-set_same, get_or-set_other}
use Rattle.whole.specs.Fold.{tab}
use Rattle.whole.specs.laws.Tab.{length-tab, get_or-tab}
use Rattle.grid.specs.declared.Sides.{Sides}
use Rattle.grid.specs.Grid.{at_end, sides_good, cells_of, grid_of, box}
use Rattle.grid.proofs.GoodSides.{good-sides}
use Rattle.solids.specs.inner.Walls.{wall_of, wall_by}

-- ---- one cell
pub end_is : (n x : ℕ) → (x ≡ 0 → ⊥) → eqb (x + 1) n ≡ at_end n x
end_is n x h = simp (ne_eqb x 0 h, add-one)

pub wall-x : (s : Sides) (c k : ℕ) → at_end s.nx (c % s.nx) ≡ true → 3 ≡ wall_of s c k
unfolding wall_of grid_of box
wall-x s c k e = simp e

pub wall-y : (s : Sides) (c k : ℕ) → at_end s.nx (c % s.nx) ≡ false → at_end s.ny (c / s.nx % s.ny) ≡ true → 3 ≡ wall_of s c k
unfolding wall_of grid_of box
wall-y s c k a e = simp (a, e)

pub wall-z : (s : Sides) (c k : ℕ) → at_end s.nx (c % s.nx) ≡ false → at_end s.ny (c / s.nx % s.ny) ≡ false → at_end s.nz (c / (s.nx * s.ny)) ≡ true → 3 ≡ wall_of s c k
unfolding wall_of grid_of box
wall-z s c k a b e = simp (a, b, e)

pub wall-k : (s : Sides) (c k : ℕ) (t : Bool) → at_end s.nx (c % s.nx) ≡ false → at_end s.ny (c / s.nx % s.ny) ≡ false → at_end s.nz (c / (s.nx * s.ny)) ≡ false
    → ltb (c / (s.nx * s.ny)) k ≡ t → cond t 3 0 ≡ wall_of s c k
unfolding wall_of grid_of box
wall-k s c k t a b d e = simp (a, b, d, e)

-- ---- the plane of a layer
pub record Plane (s : Sides) : Type 0 where
  pub some : 9 ≤ s.nx * s.ny
  pub few : s.nx * s.ny ≤ 16384
  pub x : 0 < s.nx
  pub y : 0 < s.ny

pub plane : (s : Sides) → sides_good s ≡ true → Plane s
plane s e =
    let g = good-sides s e in
    record { some = mul-le-mul g.x.low g.y.low; few = mul-le-mul g.x.high g.y.high; x = omega (arith, g.x.low); y = omega (arith, g.y.low) }

-- ---- from the last cell down
pub record Spreading (s : Sides) (before after : List ℕ) (i : ℕ) : Type 0 where
  pub few : i ≤ length before
  pub long : length after ≡ length before
  pub kept : (j : ℕ) → j < i → get_or after j 0 ≡ get_or before j 0
  pub done : (j : ℕ) → i ≤ j → j < length before → get_or after j 0 ≡ wall_by s before j

spread-one : {s : Sides} {before after : List ℕ} {v : ℕ} (c : ℕ) → Spreading s before after (suc c) → v ≡ wall_of s c (get_or after (c % (s.nx * s.ny)) 0) → Spreading s before (set after c v) c
unfolding wall_by
spread-one {s} {before} {after} {v} c r e =
    let m : c % (s.nx * s.ny) ≤ c = mod-le c (s.nx * s.ny) in
    let w : v ≡ wall_by s before c = e ∙ ap (wall_of s c) (r.kept (c % (s.nx * s.ny)) (omega arith)) in
    let l : c < length after = omega (arith, r.long, r.few) in
    record {
      few = omega (arith, r.few);
      long = length-set after c v ∙ r.long;
      kept = λ j h. get_or-set_other after c j v 0 (λ q. omega arith) ∙ r.kept j (omega arith);
      done = λ j h g. ⊎_elim (λ p. subst (λ (x : ℕ). get_or (set after c v) x 0 ≡ wall_by s before x) p (get_or-set_same after c v 0 l ∙ w)) (λ p. get_or-set_other after c j v 0 (λ q. omega arith) ∙ r.done j p g) (split c j h);
    }
  where
    split : (c j : ℕ) → c ≤ j → (c ≡ j) ⊎ (suc c ≤ j)
    split c j h = eq-or-lt_of_le h

pub spread-more : {s : Sides} {before after : List ℕ} {v : ℕ} (i : ℕ) → 0 < i → Spreading s before after i → v ≡ wall_of s (i - 1) (get_or after ((i - 1) % (s.nx * s.ny)) 0)
    → Spreading s before (set after (i - 1) v) (i - 1)
spread-more zero h r e = absurd (omega arith)
spread-more {s} {before} {after} {v} (suc c) h r e =
    let k : c ≡ suc c - 1 = omega arith in
    subst (λ (y : ℕ). Spreading s before (set after y v) y) k (spread-one c r (e ∙ ap (λ (y : ℕ). wall_of s y (get_or after (y % (s.nx * s.ny)) 0)) (sym k)))

pub spread_end : {s : Sides} {before after : List ℕ} (i : ℕ) → i ≤ 0 → Spreading s before after i → length before ≡ cells_of s → after ≡ tab (cells_of s) (wall_by s before)
spread_end {s} {before} {after} i h r e =
    ext_get_or 0 after (tab (cells_of s) (wall_by s before)) (r.long ∙ e ∙ sym (length-tab (cells_of s) (wall_by s before)))
    (λ j g. let l : j < length before = omega (arith, r.long) in r.done j (omega arith) l ∙ sym (get_or-tab (cells_of s) (wall_by s before) 0 j (omega (arith, e))))

-- the cells of good sides
pub cells-few : (s : Sides) (n : ℕ) → sides_good s ≡ true → n ≡ cells_of s → n ≤ 262144
unfolding cells_of
cells-few s n e h = omega (arith, h, (good-sides s e).all)
