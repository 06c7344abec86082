-- Cells of good sides: the coordinates of a cell number lie inside the sides, and the number of a cell inside lies below N. Assumes nothing.
use mathlib.Core.Path.{◌≡◌, sym, ◌∙◌, subst}
use mathlib.Core.Bool.{true}
use Prim.Native.Nat.{ℕ, ◌+◌, ◌*◌, ◌/◌, ◌%◌, ◌≤◌, ◌<◌}
use native.Mathlib.Nat.{mul-le-mul, mul-pos, mul_comm, mul_assoc, mod-lt, div-lt_iff_lt-mul}
use native.Mathlib.Omega.{arith}
use Rattle.grid.specs.declared.Sides.{Sides}
use Rattle.grid.specs.Grid.{sides_good, cells_of, cell_at}
use Rattle.grid.proofs.GoodSides.{good-sides}
use Rattle.tunnel.specs.inner.Asks.{Inside}
use Rattle.grid.proofs.Box.{cell-lt}

-- the coordinates of cell c
pub record Coordinates (s : Sides) (c : ℕ) : Type 0 where
  pub x : c % s.nx < 128
  pub y : c / s.nx % s.ny < 128
  pub z : c / (s.nx * s.ny) < 128
  pub plane : s.nx * s.ny ≤ 16384
  pub some : 0 < s.nx * s.ny

pub coordinates : (s : Sides) (c : ℕ) → sides_good s ≡ true → c < cells_of s → Coordinates s c
unfolding cells_of
coordinates s c e h =
    let g = good-sides s e in
    let hx : 0 < s.nx = omega (arith, g.x.low) in
    let hy : 0 < s.ny = omega (arith, g.y.low) in
    let p : 0 < s.nx * s.ny = mul-pos hx hy in
    let r : s.nx * (s.ny * s.nz) ≡ s.nz * (s.nx * s.ny) = sym (mul_assoc s.nx s.ny s.nz) ∙ mul_comm (s.nx * s.ny) s.nz in
    let z : c / (s.nx * s.ny) < s.nz = (div-lt_iff_lt-mul p).1 (subst (λ (n : ℕ). c < n) r h) in
    let q : s.nx * s.ny ≤ 128 * 128 = mul-le-mul g.x.high g.y.high in
    record {
      x = omega (arith, mod-lt c hx, g.x.high);
      y = omega (arith, mod-lt (c / s.nx) hy, g.y.high);
      z = omega (arith, g.z.high);
      plane = q;
      some = p;
    }

-- ---- a cell inside the sides

-- its number and all that leads to it is small
pub record Small (s : Sides) (x y z : ℕ) : Type 0 where
  pub low : s.ny * z ≤ 16384
  pub sum : y + s.ny * z ≤ 16512
  pub mid : s.nx * (y + s.ny * z) ≤ 2113536
  pub cell : cell_at s.nx s.ny x y z < cells_of s
  pub all : cells_of s ≤ 262144

pub small : {s : Sides} {x y z : ℕ} → Inside s x y z → Small s x y z
unfolding cells_of
small {s} {x} {y} {z} i =
    let g = good-sides s i.good in
    let l : s.ny * z ≤ 128 * 128 = mul-le-mul {m₂ = 128} g.y.high (omega (arith, i.in-z, g.z.high)) in
    let a : y + s.ny * z ≤ 16512 = omega (arith, i.in-y, g.y.high) in
    record {
      low = l;
      sum = a;
      mid = mul-le-mul {m₂ = 16512} g.x.high a;
      cell = cell-lt s.nx s.ny s.nz x y z i.in-x i.in-y i.in-z;
      all = g.all;
    }
