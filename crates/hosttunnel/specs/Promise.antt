-- What the readings' calls promise, for every input: number and place of the layer's outcome, and the values. Assumes nothing.
use Rattle.std.specs.Prelude.{◌≡◌, List, ℕ, ℤ, Float, length, Result}
use Rattle.grid.specs.declared.Sides.{Sides}
use Rattle.grid.specs.declared.refusals.Refusal.{Refusal}
use Rattle.tunnel.specs.declared.Point.{Point}
use Rattle.tunnel.specs.Place as placing
use Rattle.tunnel.specs.Place.{placed_number, placed_place, cell_number}
use Rattle.tunnel.specs.Exact.{Exactly}
use Rattle.tunnel.specs.Point.{WholePoint, point_number, point_place, point_values}
use Rattle.tunnel.specs.Depth.{Reading, Tells}
use Rattle.profile.specs.declared.Frame.{Frame}
use Rattle.profile.specs.Profile.{Survey}
use Rattle.profile.specs.Outcome.{profile_answer, profiled_number, profiled_place, wet_of, deepest_of, tests_answer, kinds_by, DepthsBy}
use Rattle.host.specs.Given.{sides_of}

abbrev pub millimetres : ℤ → ℤ → ℤ → Point
millimetres x y z = record { x = x; y = y; z = z }

abbrev pub frame_of : ℕ → ℕ → ℕ → ℤ → ℤ → ℤ → ℤ → Frame
frame_of nx ny nz edge x y z = record { sides = sides_of nx ny nz; edge = edge; origin = millimetres x y z }

-- placing: number, place and the cell, 0 beside a refusal
pub record PlaceTold (s : Sides) (edge : ℤ) (origin point : Point) (number place cell : ℕ) : Type 0 where
  pub number_is : number ≡ placed_number (placing.placing_of s edge origin point)
  pub place_is : place ≡ placed_place (placing.placing_of s edge origin point)
  pub cell-is : cell ≡ cell_number (placing.placing_of s edge origin point)

-- cell point: number, place, and four `f32`, each exact, 0 beside a refusal
pub record PointTold (w : Result WholePoint Refusal) (number place : ℕ) (x y z fill : Float) : Type 0 where
  pub number_is : number ≡ point_number w
  pub place_is : place ≡ point_place w
  pub x-is : Exactly x (point_values w).x 2
  pub y-is : Exactly y (point_values w).y 2
  pub z-is : Exactly z (point_values w).z 2
  pub fill_is : Exactly fill (point_values w).fill 65536

-- depth: number, place, kind, and an `f32`, exact, 0 unless deep; as the layer's own promise has them
abbrev pub DepthTold : Reading → ℕ → ℕ → ℕ → Float → Type 0
DepthTold w number place kind depth = Tells (record { number = number; place = place; kind = kind; value = depth }) w

-- the profile: number, place, whether a point is wet, the deepest point, and the lines: kinds, and `f32`, each exact
pub record ProfileTold (v : Survey) (chainages : List ℤ) (kinds : List ℕ) (depths : List Float) (number place wet deepest : ℕ) (kinds_after : List ℕ) (depths_after : List Float) : Type 0 where
  pub number_is : number ≡ profiled_number (profile_answer v chainages (length kinds) (length depths))
  pub place_is : place ≡ profiled_place (profile_answer v chainages (length kinds) (length depths))
  pub wet-is : wet ≡ wet_of (profile_answer v chainages (length kinds) (length depths))
  pub deepest-is : deepest ≡ deepest_of (profile_answer v chainages (length kinds) (length depths))
  pub kinds-are : kinds_after ≡ kinds_by (tests_answer v chainages (length kinds) (length depths)) v (length chainages) kinds
  pub depths-are : DepthsBy (tests_answer v chainages (length kinds) (length depths)) v (length chainages) depths depths_after
