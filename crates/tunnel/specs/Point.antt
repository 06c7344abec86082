-- Cell point: what it answers for every input. Assumes nothing.
use Rattle.std.specs.Prelude.{List, ℕ, ◌+◌, ◌*◌, ◌/◌, ◌%◌, leb, ltb, eqb, length, get_or, Result, Ok, Err}
use Rattle.grid.specs.declared.Sides.{Sides}
use Rattle.grid.specs.Grid.{sides_good, cells_of}
use Rattle.grid.specs.Answer.{refusal_number, refusal_place}
use Rattle.grid.specs.declared.refusals.Refusal.{Refusal}
use Rattle.grid.specs.declared.refusals.Refusal.TheVariants.{BadSides, BadLength, BadState, Outside}
use Rattle.tunnel.specs.declared.CellPoint.{CellPoint}
use Rattle.tunnel.specs.Refusal.{or_else}
use Rattle.tunnel.specs.Exact.{Exactly}

-- a cell point in whole numbers: the centre in halves of a cell; the fill in 65,536ths
pub record WholePoint : Type 0 where
  pub x : ℕ
  pub y : ℕ
  pub z : ℕ
  pub fill : ℕ

-- cell c = x + nx(y + ny·z): its centre is (2x+1)/2 and so on
abbrev pub centre_of : Sides → ℕ → ℕ → WholePoint
centre_of s c fill = record {
  x = 2 * (c % s.nx) + 1;
  y = 2 * (c / s.nx % s.ny) + 1;
  z = 2 * (c / (s.nx * s.ny)) + 1;
  fill = fill;
}

-- tests 1, 2, 13, then that cell's fill
unfoldable pub point_of : Sides → List ℕ → ℕ → Result WholePoint Refusal
point_of s fills c =
    or_else (sides_good s) (Err BadSides)
    (or_else (eqb (length fills) (cells_of s)) (Err BadLength)
    (or_else (ltb c (cells_of s)) (Err Outside)
    (or_else (leb (get_or fills c 0) 65536) (Err (BadState c))
    (Ok (centre_of s c (get_or fills c 0))))))

-- the paper's number and place for each case, 0 0 if accepted; the values returned beside a refusal are 0
abbrev pub point_number : Result WholePoint Refusal → ℕ
point_number (Ok w) = 0
point_number (Err refusal) = refusal_number refusal

abbrev pub point_place : Result WholePoint Refusal → ℕ
point_place (Ok w) = 0
point_place (Err refusal) = refusal_place refusal

abbrev pub point_values : Result WholePoint Refusal → WholePoint
point_values (Ok w) = w
point_values (Err refusal) = record { x = 0; y = 0; z = 0; fill = 0 }

-- what the code's struct says of a point: the four `f32` exact
pub record CentreIs (r : CellPoint) (w : WholePoint) : Type 0 where
  pub x : Exactly r.x w.x 2
  pub y : Exactly r.y w.y 2
  pub z : Exactly r.z w.z 2
  pub fill : Exactly r.fill w.fill 65536

-- what the code answers: the same refusal, or the struct of that point
pub data PointIs : Result CellPoint Refusal → Result WholePoint Refusal → Type 0 where
  is-refused : {refusal : Refusal} → PointIs (Err refusal) (Err refusal)
  is-point : {r : CellPoint} {w : WholePoint} → CentreIs r w → PointIs (Ok r) (Ok w)

-- names every definition of this file: whoever unfolds this computes with all of them
unfoldable pub open-point : Unit {0}
unfolding point_of
open-point = tt
