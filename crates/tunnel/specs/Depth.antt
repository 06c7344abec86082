-- Depth of a column: what it answers for every input, in document 01's numbers. Assumes nothing.
use Rattle.std.specs.Prelude.{◌≡◌, Bool, false, ◌&&◌, cond, List, ℕ, eqb, leb, ltb, pos, Float, length, get_or, Result, Ok, Err}
use Rattle.std.specs.Float.{fin}
use Rattle.whole.specs.Fold.{first, all, total}
use Rattle.grid.specs.declared.Sides.{Sides}
use Rattle.grid.specs.Grid.{sides_good, cells_of, cell_at}
use Rattle.grid.specs.Answer.{refusal_number, refusal_place}
use Rattle.grid.specs.declared.refusals.Refusal.{Refusal}
use Rattle.grid.specs.declared.refusals.Refusal.TheVariants.{BadSides, BadLength, BadFlag, BadState, Outside}
use Rattle.tunnel.specs.declared.Depth.{Depth}
use Rattle.tunnel.specs.declared.Depth.TheVariants.{Solid, Dry, Deep}
use Rattle.tunnel.specs.Refusal.{or_else}
use Rattle.tunnel.specs.Exact.{Exactly}

-- what a column shows: solid, dry, or deep, and then its depth in 65,536ths of a cell
pub data Shown : Type 0 where
  solid : Shown
  dry : Shown
  deep : ℕ → Shown

-- a depth in whole numbers: what the column shows, or the refusal
abbrev pub Reading : Type 0
Reading = Result Shown Refusal

-- the paper's number and place for each case, 0 0 if accepted; the kind, 0 refused, 1 solid, 2 dry, 3 deep; and the depth in 65,536ths of a cell, 0
-- unless deep
abbrev pub reading_number : Reading → ℕ
reading_number (Ok shown) = 0
reading_number (Err refusal) = refusal_number refusal

abbrev pub reading_place : Reading → ℕ
reading_place (Ok shown) = 0
reading_place (Err refusal) = refusal_place refusal

abbrev pub reading_kind : Reading → ℕ
reading_kind (Ok solid) = 1
reading_kind (Ok dry) = 2
reading_kind (Ok (deep sum)) = 3
reading_kind (Err refusal) = 0

abbrev pub reading_sum : Reading → ℕ
reading_sum (Ok solid) = 0
reading_sum (Ok dry) = 0
reading_sum (Ok (deep sum)) = sum
reading_sum (Err refusal) = 0

-- what the column (x, y) has at height z
abbrev pub column_at : Sides → List ℕ → ℕ → ℕ → ℕ → ℕ
column_at s l x y z = get_or l (cell_at s.nx s.ny x y z) 0

-- flag above 3 (4), fill outside 0..65,536 (6)
unfoldable pub flag_bad : Sides → List ℕ → ℕ → ℕ → ℕ → Bool
flag_bad s flags x y z = ltb 3 (column_at s flags x y z)

unfoldable pub fill_bad : Sides → List ℕ → ℕ → ℕ → ℕ → Bool
fill_bad s fills x y z = ltb 65536 (column_at s fills x y z)

-- walls, and the fills of the other cells
unfoldable pub is_wall : Sides → List ℕ → ℕ → ℕ → ℕ → Bool
is_wall s flags x y z = eqb (column_at s flags x y z) 3

unfoldable pub open_fill : Sides → List ℕ → List ℕ → ℕ → ℕ → ℕ → ℕ
open_fill s flags fills x y z = cond (is_wall s flags x y z) 0 (column_at s fills x y z)

-- solid, if every cell is wall; dry, if the other cells' fills add to 0; else a depth
unfoldable pub reading_of : Bool → ℕ → Shown
reading_of walls sum = cond walls solid (cond (eqb sum 0) dry (deep sum))

-- in its column flag above 3 (4), fill outside 0..65,536 (6), each at the lowest such cell; then the reading
unfoldable pub measured_of : Sides → List ℕ → List ℕ → ℕ → ℕ → Reading
measured_of s flags fills x y =
    let f = first s.nz (flag_bad s flags x y) in
    let g = first s.nz (fill_bad s fills x y) in
    or_else (leb s.nz f) (Err (BadFlag (cell_at s.nx s.ny x y f)))
    (or_else (leb s.nz g) (Err (BadState (cell_at s.nx s.ny x y g)))
    (Ok (reading_of (all s.nz (is_wall s flags x y)) (total s.nz (open_fill s flags fills x y)))))

-- tests 1, 2, 13, then those of the column
unfoldable pub depth_of : Sides → List ℕ → List ℕ → ℕ → ℕ → Reading
depth_of s flags fills x y =
    or_else (sides_good s) (Err BadSides)
    (or_else (eqb (length flags) (cells_of s) && eqb (length fills) (cells_of s)) (Err BadLength)
    (or_else (ltb x s.nx && ltb y s.ny) (Err Outside)
    (measured_of s flags fills x y)))

-- ---- what the code answers

-- the same refusal, solid, dry, or an `f32` that is the depth exactly
pub data DepthIs : Result Depth Refusal → Reading → Type 0 where
  is-refused : {refusal : Refusal} → DepthIs (Err refusal) (Err refusal)
  is-solid : DepthIs (Ok Solid) (Ok solid)
  is-dry : DepthIs (Ok Dry) (Ok dry)
  is-deep : {depth : Float} {sum : ℕ} → Exactly depth sum 65536 → DepthIs (Ok (Deep depth)) (Ok (deep sum))

-- ---- and in numbers

-- what is told of a depth: number, place and kind as above, and the depth in cells as an `f32`
pub record Told : Type 0 where
  pub number : ℕ
  pub place : ℕ
  pub kind : ℕ
  pub value : Float

-- the f32 0
abbrev pub zero_float : Float
zero_float = fin false 0 (pos 0)

-- the paper's number, place, kind and value for each case
abbrev pub told_of : Result Depth Refusal → Told
told_of (Ok Solid) = record { number = 0; place = 0; kind = 1; value = zero_float }
told_of (Ok Dry) = record { number = 0; place = 0; kind = 2; value = zero_float }
told_of (Ok (Deep depth)) = record { number = 0; place = 0; kind = 3; value = depth }
told_of (Err refusal) = record { number = refusal_number refusal; place = refusal_place refusal; kind = 0; value = zero_float }

-- what is told is a reading: number, place and kind are its own, and the `f32` is exact
pub record Tells (t : Told) (w : Reading) : Type 0 where
  pub number_is : t.number ≡ reading_number w
  pub place_is : t.place ≡ reading_place w
  pub kind-is : t.kind ≡ reading_kind w
  pub value-is : Exactly t.value (reading_sum w) 65536

-- names every definition of this file: whoever unfolds this computes with all of them
unfoldable pub open-depth : Unit {0}
unfolding flag_bad fill_bad is_wall open_fill reading_of measured_of depth_of
open-depth = tt
