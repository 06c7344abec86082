-- A cell number and its three coordinates: c = x + nx(y + ny·z) decides x, y and z, so a walk that keeps this equation knows whether it stands in the
-- outer layer; a cell that does not has all its neighbours in the grid. Assumes nothing.
use mathlib.Core.Path.{◌≡◌, refl, sym, ap, ◌∙◌}
use mathlib.Core.Bool.{Bool, true, false, ◌||◌}
use Prim.Native.Nat.{ℕ, suc, ◌+◌, ◌*◌, ◌/◌, ◌%◌, ◌≤◌, ◌<◌}
use native.Mathlib.Nat.{mod-lt, mod-eq_of_lt, div-eq_of_lt, add-mul-div_left, add-mul-mod_self_left, mod-add-div, div-div-eq-div-mul, mul-le-mul_left}
use native.Mathlib.Omega.{arith}
use lib.Dec.{eqb, ltb}
use borrow.Author.Tests.{eqb-false, ltb-true, ltb-false}
use Rattle.whole.specs.laws.Bools.{or-false}
use Rattle.grid.specs.declared.Sides.{Sides}
use Rattle.grid.specs.declared.Place.{Place}
use Rattle.grid.specs.Grid.{at_end, grid_of, box, cells_of, sides_good}
use Rattle.grid.specs.inner.Passes.{Inner, Stands, Of, place_after, outer_at, low_of}
use Rattle.grid.proofs.GoodSides.{good-sides}

module _ {s : Sides} {c : ℕ} {p : Place} (h : Stands s c p) where
  rest : c / s.nx ≡ p.y + s.ny * p.z
  rest =
      ap (λ (m : ℕ). m / s.nx) h.is ∙ add-mul-div_left p.x (p.y + s.ny * p.z) (omega (arith, h.x-low))
      ∙ ap (λ (m : ℕ). m + (p.y + s.ny * p.z)) (div-eq_of_lt h.x-low)
      ∙ omega arith

  pub x-of : c % s.nx ≡ p.x
  x-of = ap (λ (m : ℕ). m % s.nx) h.is ∙ add-mul-mod_self_left p.x s.nx (p.y + s.ny * p.z) ∙ mod-eq_of_lt h.x-low

  pub y_of : c / s.nx % s.ny ≡ p.y
  y_of = ap (λ (m : ℕ). m % s.ny) rest ∙ add-mul-mod_self_left p.y s.ny p.z ∙ mod-eq_of_lt h.y-low

  pub z-of : c / (s.nx * s.ny) ≡ p.z
  z-of =
      sym (div-div-eq-div-mul c s.nx s.ny) ∙ ap (λ (m : ℕ). m / s.ny) rest
      ∙ add-mul-div_left p.y p.z (omega (arith, h.y-low))
      ∙ ap (λ (m : ℕ). m + p.z) (div-eq_of_lt h.y-low)
      ∙ omega arith

  pub outer-at : (grid_of s).outer c ≡ outer_at s p
  unfolding grid_of box outer_at
  outer-at = rw (x-of, y_of, z-of) refl

-- every cell stands somewhere
abbrev place_of : Sides → ℕ → Place
place_of s c = record { x = c % s.nx; y = c / s.nx % s.ny; z = c / s.nx / s.ny }

pub stands : (s : Sides) (c : ℕ) → sides_good s ≡ true → Stands s c (place_of s c)
stands s c e =
    let g = good-sides s e in
    record {
      is =
          sym (mod-add-div c s.nx)
          ∙ ap (λ (m : ℕ). c % s.nx + s.nx * m) (sym (mod-add-div (c / s.nx) s.ny));
      x-low = mod-lt c (omega (arith, g.x.low));
      y-low = mod-lt (c / s.nx) (omega (arith, g.y.low));
    }

-- a coordinate that is at neither end
pub between : (n x : ℕ) → at_end n x ≡ false → x < n → (1 ≤ x) × (x + 2 ≤ n)
between n x e h =
    let p = or-false (eqb x 0) (eqb (suc x) n) e in
    (one x (eqb-false x 0 p.0), two x n h (eqb-false (suc x) n p.1))
  where
    one : (x : ℕ) → (x ≡ 0 → ⊥) → 1 ≤ x
    one x f = omega arith

    two : (x n : ℕ) → x < n → (suc x ≡ n → ⊥) → x + 2 ≤ n
    two x n l f = omega arith

-- the last plane is at nz − 1
last-plane : (s : Sides) (c : ℕ) (p : Place) → Stands s c p → c < cells_of s → p.z < s.nz
unfolding cells_of
last-plane s c p h k = low p.z s.nz (λ g. omega (arith, h.is, mul-le-mul_left (s.nx * s.ny) g))
  where
    low : (a b : ℕ) → (b ≤ a → ⊥) → a < b
    low a b f = omega arith

pub place-of : (s : Sides) (c : ℕ) (p : Place) → Stands s c p → c < cells_of s → Of s p
place-of s c p h k = record { x-low = h.x-low; y-low = h.y-low; z-low = last-plane s c p h k }

inner-at : (s : Sides) (c : ℕ) (p : Place) → Stands s c p → c < cells_of s → outer_at s p ≡ false → Inner s c
unfolding outer_at low_of cells_of
inner-at s c p h k e =
    let a = or-false (at_end s.nx p.x || at_end s.ny p.y) (at_end s.nz p.z) e in
    let b = or-false (at_end s.nx p.x) (at_end s.ny p.y) a.0 in
    let hx = between s.nx p.x b.0 h.x-low in
    let hy = between s.ny p.y b.1 h.y-low in
    let hz = between s.nz p.z a.1 (last-plane s c p h k) in
    record {
      low = omega (arith, h.is, hx.0, mul-le-mul_left s.nx hy.0, mul-le-mul_left (s.nx * s.ny) hz.0);
      high = omega (arith, h.is, hx.1, mul-le-mul_left s.nx hy.1, mul-le-mul_left (s.nx * s.ny) hz.1);
    }

-- a cell that is not in the outer layer has all its neighbours in the grid
pub inner_of : (s : Sides) (c : ℕ) → sides_good s ≡ true → c < cells_of s → (grid_of s).outer c ≡ false → Inner s c
inner_of s c g k e =
    let h = stands s c g in
    inner-at s c (place_of s c) h k (sym (outer-at h) ∙ e)

-- the walk: the first cell stands at 0, 0, 0, and after each cell comes the next
pub stands-first : (s : Sides) → sides_good s ≡ true → Stands s 0 (record { x = 0; y = 0; z = 0 })
stands-first s e = let g = good-sides s e in record { is = omega arith; x-low = omega (arith, g.x.low); y-low = omega (arith, g.y.low) }

pub stands_after : (s : Sides) (c : ℕ) (p : Place) → Stands s c p → Stands s (c + 1) (place_after s p)
unfolding place_after
stands_after s c p h = along (ltb (p.x + 1) s.nx) refl (ltb (p.y + 1) s.ny) refl
  where
    along : (a : Bool) → ltb (p.x + 1) s.nx ≡ a → (b : Bool) → ltb (p.y + 1) s.ny ≡ b → Stands s (c + 1) (place_after s p)
    along true ea b eb = rw ea (record { is = omega (arith, h.is); x-low = ltb-true (p.x + 1) s.nx ea; y-low = h.y-low })
    along false ea true eb =
        let e : p.x + 1 ≡ s.nx = omega (arith, h.x-low, ltb-false (p.x + 1) s.nx ea) in
        rw (ea, eb) (record { is = omega (arith, h.is); x-low = omega (arith, h.x-low); y-low = ltb-true (p.y + 1) s.ny eb })
    along false ea false eb =
        let e : p.x + 1 ≡ s.nx = omega (arith, h.x-low, ltb-false (p.x + 1) s.nx ea) in
        let f : p.y + 1 ≡ s.ny = omega (arith, h.y-low, ltb-false (p.y + 1) s.ny eb) in
        let g : s.nx * (p.y + 1) ≡ s.nx * s.ny = ap (λ (m : ℕ). s.nx * m) f in
        rw (ea, eb) (record { is = omega (arith, h.is); x-low = omega (arith, h.x-low); y-low = omega (arith, h.y-low) })
