-- Every figure of a cell point and every depth is a whole number of parts below 2^24: a centre lies below 128 cells, a fill is at most 65,536, and a depth
-- is as tunnel has it. Assumes nothing.
use mathlib.Core.Path.{◌≡◌, refl, subst}
use mathlib.Core.Bool.{Bool, true, false}
use mathlib.Core.List.{List}
use Prim.Native.Nat.{ℕ, ◌≤◌, ◌<◌}
use native.Mathlib.Omega.{arith}
use borrow.Author.Tests.{leb-true, ltb-true}
use lib.Dec.{eqb, leb, ltb}
use lib.Ieee.{Float}
use lib.ListN.{length, get_or}
use Rattle.std.specs.Prelude.{Result, Ok, Err}
use Rattle.grid.specs.declared.Sides.{Sides}
use Rattle.grid.specs.declared.refusals.Refusal.{Refusal}
use Rattle.grid.specs.declared.refusals.Refusal.TheVariants.{BadSides, BadLength, BadState, Outside}
use Rattle.grid.specs.Grid.{sides_good, cells_of}
use Rattle.tunnel.specs.declared.CellPoint.{CellPoint}
use Rattle.tunnel.specs.declared.Depth.{Depth}
use Rattle.tunnel.specs.declared.Depth.TheVariants.{Solid, Dry, Deep}
use Rattle.tunnel.specs.Refusal.{or_else}
use Rattle.tunnel.specs.inner.Parts.{Parts}
use Rattle.tunnel.specs.Point.{WholePoint, PointIs, is-refused, is-point, centre_of, point_of}
use Rattle.tunnel.specs.Depth as depth
use Rattle.tunnel.specs.Depth.{Reading, reading_sum, DepthIs, depth_of}
use Rattle.tunnel.proofs.Cells.{coordinates}
use Rattle.tunnel.proofs.Few.{few-depth}

-- ---- cell point
record Few (w : WholePoint) : Type 0 where
  pub x : w.x < 16777216
  pub y : w.y < 16777216
  pub z : w.z < 16777216
  pub fill : w.fill < 16777216

abbrev FewIn : Result WholePoint Refusal → Type 0
FewIn (Ok w) = Few w
FewIn (Err refusal) = Unit {0}

few-centre : (s : Sides) (c fill : ℕ) → sides_good s ≡ true → c < cells_of s → fill ≤ 65536 → Few (centre_of s c fill)
few-centre s c fill g h m =
    let k = coordinates s c g h in
    record { x = omega (arith, k.x); y = omega (arith, k.y); z = omega (arith, k.z); fill = omega arith }

few-if : (a b d e : Bool) (s : Sides) (c fill : ℕ) → sides_good s ≡ a → ltb c (cells_of s) ≡ d → leb fill 65536 ≡ e
    → FewIn (or_else a (Err BadSides) (or_else b (Err BadLength) (or_else d (Err Outside) (or_else e (Err (BadState c)) (Ok (centre_of s c fill))))))
few-if false b d e s c fill p q r = tt
few-if true false d e s c fill p q r = tt
few-if true true false e s c fill p q r = tt
few-if true true true false s c fill p q r = tt
few-if true true true true s c fill p q r = few-centre s c fill p (ltb-true c (cells_of s) q) (leb-true fill 65536 r)

few : (s : Sides) (fills : List ℕ) (c : ℕ) → FewIn (point_of s fills c)
unfolding point_of
few s fills c =
    few-if (sides_good s) (eqb (length fills) (cells_of s)) (ltb c (cells_of s)) (leb (get_or fills c 0) 65536) s c (get_or fills c 0) refl refl refl

pub record PointParts (p : CellPoint) : Type 0 where
  pub x : Parts p.x 2
  pub y : Parts p.y 2
  pub z : Parts p.z 2
  pub fill : Parts p.fill 65536

abbrev PartsIn : Result CellPoint Refusal → Type 0
PartsIn (Ok p) = PointParts p
PartsIn (Err refusal) = Unit {0}

parts-in : {a : Result CellPoint Refusal} {w : Result WholePoint Refusal} → PointIs a w → FewIn w → PartsIn a
parts-in is-refused f = tt
parts-in (is-point {r} {w} i) f =
    record {
      x = record { count = w.x; few = f.x; is = i.x };
      y = record { count = w.y; few = f.y; is = i.y };
      z = record { count = w.z; few = f.z; is = i.z };
      fill = record { count = w.fill; few = f.fill; is = i.fill };
    }

pub point-parts : (s : Sides) (fills : List ℕ) (c : ℕ) {p : CellPoint} → PointIs (Ok p) (point_of s fills c) → PointParts p
point-parts s fills c i = parts-in i (few s fills c)

-- ---- depth
abbrev DepthParts : Result Depth Refusal → Type 0
DepthParts (Ok Solid) = Unit {0}
DepthParts (Ok Dry) = Unit {0}
DepthParts (Ok (Deep d)) = Parts d 65536
DepthParts (Err refusal) = Unit {0}

depth-in : {a : Result Depth Refusal} {w : Reading} → DepthIs a w → reading_sum w < 16777216 → DepthParts a
depth-in depth.is-refused f = tt
depth-in depth.is-solid f = tt
depth-in depth.is-dry f = tt
depth-in (depth.is-deep {sum = sum} h) f = record { count = sum; few = f; is = h }

pub depth-parts : (s : Sides) (flags fills : List ℕ) (x y : ℕ) {a : Depth} {d : Float} → DepthIs (Ok a) (depth_of s flags fills x y) → a ≡ Deep d → Parts d 65536
depth-parts s flags fills x y i e = subst (λ (b : Depth). DepthParts (Ok b)) e (depth-in i (few-depth s flags fills x y))
