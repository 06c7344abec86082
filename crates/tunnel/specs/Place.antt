-- Placing: what it answers for every input. Assumes nothing.
use Rattle.std.specs.Prelude.{Bool, ◌&&◌, cond, ℕ, ltb, ℤ, pos, negsuc, nat_abs, ◌-ℤ◌, Result, Ok, Err}
use Rattle.lattice.specs.Cell.{floor, edge_good, coordinate_good}
use Rattle.grid.specs.declared.Sides.{Sides}
use Rattle.grid.specs.Grid.{sides_good, cell_at}
use Rattle.grid.specs.Answer.{refusal_number, refusal_place}
use Rattle.grid.specs.declared.refusals.Refusal.{Refusal}
use Rattle.grid.specs.declared.refusals.Refusal.TheVariants.{BadSetting, BadSides, Outside}
use Rattle.tunnel.specs.declared.Point.{Point}
use Rattle.tunnel.specs.Refusal.{or_else}

-- what placing answers: a cell number, or the refusal
abbrev pub Placed : Type 0
Placed = Result ℕ Refusal

-- the paper's number, place and cell number for each case: number and place are 0 0 if accepted, the cell is 0 beside a refusal
abbrev pub placed_number : Placed → ℕ
placed_number (Ok c) = 0
placed_number (Err refusal) = refusal_number refusal

abbrev pub placed_place : Placed → ℕ
placed_place (Ok c) = 0
placed_place (Err refusal) = refusal_place refusal

abbrev pub cell_number : Placed → ℕ
cell_number (Ok c) = c
cell_number (Err refusal) = 0

-- each coordinate within ±10^10
unfoldable pub point_good : Point → Bool
point_good p = coordinate_good p.x && coordinate_good p.y && coordinate_good p.z

-- a quotient inside the side; the side itself, which is no cell, where it lies outside
abbrev pub inside : ℤ → ℕ → ℕ
inside (pos q) side = cond (ltb q side) q side
inside (negsuc q) side = side

-- per axis floor((point − origin)/edge)
unfoldable pub axis_of : ℤ → ℤ → ℕ → ℕ → ℕ
axis_of point origin edge side = inside (floor (point -ℤ origin) edge) side

-- test 13 and the cell: each axis must lie inside the sides
unfoldable pub found_of : Sides → ℤ → Point → Point → Placed
found_of s edge origin point =
    let x = axis_of point.x origin.x (nat_abs edge) s.nx in
    let y = axis_of point.y origin.y (nat_abs edge) s.ny in
    let z = axis_of point.z origin.z (nat_abs edge) s.nz in
    or_else (ltb x s.nx && ltb y s.ny && ltb z s.nz) (Err Outside)
    (Ok (cell_at s.nx s.ny x y z))

-- tests 1, 3, 13
unfoldable pub placing_of : Sides → ℤ → Point → Point → Placed
placing_of s edge origin point =
    or_else (sides_good s) (Err BadSides)
    (or_else (edge_good edge && point_good origin && point_good point) (Err (BadSetting 0))
    (found_of s edge origin point))

-- names every definition of this file: whoever unfolds this computes with all of them
unfoldable pub open-place : Unit {0}
unfolding point_good axis_of found_of placing_of
open-place = tt
