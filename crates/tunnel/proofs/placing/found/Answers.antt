-- `tunnel::placing::found`: three axes, each by its own contract; those inside number a cell of the grid. Assumes nothing.
use borrow.Author.Tests.{lt-ltb, le-ltb}
use mathlib.Core.Path.{◌≡◌, ap}
use mathlib.Core.Bool.{true}
use Prim.Native.Nat.{ℕ, ◌^◌, ◌<◌}
use lib.IntN.{ℤ, nat_abs}
use lib.Signed.{mag}
use mir.Syntax.{w64}
use mir.Val.{SFits, to_z, of_z, hbits}
use mir.ValLaws.{to_z-of_z}
use Rattle.lattice.specs.Cell.{edge_good, coordinate_good}
use Rattle.std.specs.Prelude.{Ok}
use Rattle.tunnel.specs.Place.{axis_of, found_of}
use Rattle.tunnel.proofs.Axes.{Good, good}
use Rattle.tunnel.proofs.placing.found.Lts as lts
use Rattle.tunnel.proofs.placing.found.Reads as reads
use Rattle.tunnel.proofs.placing.found.Tie as tie
use Rattle.tunnel.proofs.placing.found.Goals as goal

abbrev At-Start : Type 0
At-Start = lts.Start tie.the-claims reads.Pre reads.Post tie.handed_clauses

abbrev At-After-axis-x : Type 0
At-After-axis-x = lts.After-axis tie.the-claims reads.Pre reads.Post tie.handed_clauses

abbrev At-After-axis-y : Type 0
At-After-axis-y = lts.After-axis2 tie.the-claims reads.Pre reads.Post tie.handed_clauses

abbrev At-After-axis-z : Type 0
At-After-axis-z = lts.After-axis3 tie.the-claims reads.Pre reads.Post tie.handed_clauses

-- one axis, over numbers that fit: what it asks, and what it told
module _ (point origin edge : ℤ) (p : mag point < 2 ^ hbits w64) (o : mag origin < 2 ^ hbits w64) (e : SFits w64 edge) where
  asked : coordinate_good point ≡ true → coordinate_good origin ≡ true → edge_good edge ≡ true
      → (coordinate_good (to_z w64 (of_z w64 point)) ≡ true) × ((coordinate_good (to_z w64 (of_z w64 origin)) ≡ true) × (edge_good (to_z w64 (of_z w64 edge)) ≡ true))
  asked hp ho he = simp (to_z-of_z w64 point (record { sfits = p }), to_z-of_z w64 origin (record { sfits = o }), to_z-of_z w64 edge e) (hp, (ho, he))

  told : (r side : ℕ) → r ≡ axis_of (to_z w64 (of_z w64 point)) (to_z w64 (of_z w64 origin)) (nat_abs (to_z w64 (of_z w64 edge))) side
      → r ≡ axis_of point origin (nat_abs edge) side
  told r side h = simp (to_z-of_z w64 point (record { sfits = p }), to_z-of_z w64 origin (record { sfits = o }), to_z-of_z w64 edge e) at h

good-point : (c : At-Start) → Good c.args.point
good-point c = good c.args.point c.requires.point_value

good-origin : (c : At-Start) → Good c.args.origin
good-origin c = good c.args.origin c.requires.origin_value

-- ---- what the three axes gave
-- r is the definition's cell along an axis
abbrev Is : (point origin edge : ℤ) (side r : ℕ) → Type 0
Is point origin edge side r = r ≡ axis_of point origin (nat_abs edge) side

x-is : (c : At-After-axis-x) → (let a = c.args in Is a.point.x a.origin.x a.edge a.s.nx c.axis-x.result)
x-is c =
    let s = c.before.before.before in
    let a = s.args in
    told a.point.x a.origin.x a.edge c.struct_told-1.given.0.1 c.struct_told-2-1.given.0.1 s.ranges.edge _ _
    c.axis-x.ensures

y-is : (c : At-After-axis-y) → (let a = c.args in Is a.point.y a.origin.y a.edge a.s.ny c.axis-y.result)
y-is c =
    let s = c.before.before.before.before.before.before in
    let a = s.args in
    told a.point.y a.origin.y a.edge c.struct_told-3-1.given.1.0.1 c.struct_told-4-1.given.1.0.1 s.ranges.edge _ _
    c.axis-y.ensures

z-is : (c : At-After-axis-z) → (let a = c.args in Is a.point.z a.origin.z a.edge a.s.nz c.axis-z.result)
z-is c =
    let s = c.before.before.before.before.before.before.before.before.before in
    let a = s.args in
    told a.point.z a.origin.z a.edge c.struct_told-5-1.given.1.1.0.1 c.struct_told-6-1.given.1.1.0.1 s.ranges.edge _ _
    c.axis-z.ensures

-- the first two, seen from the third
abbrev start : At-After-axis-z → At-Start
start c = c.before.before.before.before.before.before.before.before.before

xs : (c : At-After-axis-z) → (let a = (start c).args in Is a.point.x a.origin.x a.edge a.s.nx c.axis-x.result)
xs c = x-is c.before.before.before.before.before.before

ys : (c : At-After-axis-z) → (let a = (start c).args in Is a.point.y a.origin.y a.edge a.s.ny c.axis-y.result)
ys c = y-is c.before.before.before

-- ---- the needs
pub axis-x-requires : goal.axis-x-requires
axis-x-requires c =
    let s = c.before.before.before in
    let a = s.args in
    let asks = asked a.point.x a.origin.x a.edge c.struct_told-1.given.0.1 c.struct_told-2-1.given.0.1 s.ranges.edge
    (good-point s).x (good-origin s).x s.requires.edge_value in record { point_value = asks.0; origin_value = asks.1.0; edge_value = asks.1.1 }

pub axis-y-requires : goal.axis-y-requires
axis-y-requires c =
    let s = c.before.before.before.before.before.before in
    let a = s.args in
    let asks = asked a.point.y a.origin.y a.edge c.struct_told-3-1.given.1.0.1 c.struct_told-4-1.given.1.0.1 s.ranges.edge
    (good-point s).y (good-origin s).y s.requires.edge_value in record { point_value = asks.0; origin_value = asks.1.0; edge_value = asks.1.1 }

pub axis-z-requires : goal.axis-z-requires
axis-z-requires c =
    let s = c.before.before.before.before.before.before.before.before.before in
    let a = s.args in
    let asks = asked a.point.z a.origin.z a.edge c.struct_told-5-1.given.1.1.0.1 c.struct_told-6-1.given.1.1.0.1 s.ranges.edge
    (good-point s).z (good-origin s).z s.requires.edge_value in record { point_value = asks.0; origin_value = asks.1.0; edge_value = asks.1.1 }

pub returns-then-s-x : goal.returns-then-s-x
unfolding found_of
returns-then-s-x c =
    let d = c.before.before in
    simp (← xs d, le-ltb _ _ c.if-s-x.true)

pub returns-then-s-y : goal.returns-then-s-y
unfolding found_of
returns-then-s-y c =
    let d = c.before.before.before.before in
    simp (← xs d, ← ys d, lt-ltb _ _ c.if-s-x.false, le-ltb _ _ c.if-s-y.true)

pub returns-then-s-z : goal.returns-then-s-z
unfolding found_of
returns-then-s-z c =
    let d = c.before.before.before.before.before.before in
    let e = c.before.before in
    simp (← xs d, ← ys d, ← z-is d, lt-ltb _ _ e.if-s-x.false, lt-ltb _ _ e.if-s-y.false, le-ltb _ _ c.if-s-z.true)

pub number-requires : goal.number-requires
number-requires c =
    record {
      good = c.requires.s_value;
      in-x = c.if-s-x.false;
      in-y = c.if-s-y.false;
      in-z = c.if-s-z.false;
    }

pub returns : goal.returns
unfolding found_of
returns c =
    let e = c.before in
    let d = e.before.before.before.before.before.before in
    simp (← xs d, ← ys d, ← z-is d, lt-ltb _ _ e.if-s-x.false, lt-ltb _ _ e.if-s-y.false, lt-ltb _ _ e.if-s-z.false)
    (ap (λ (n : ℕ). Ok n) c.number.ensures)
