-- One axis of placing: what the ranges bound, and that the code's two ways, a negative difference and an unsigned quotient, are the floor. Assumes nothing.
use mathlib.Core.Path.{◌≡◌, refl}
use mathlib.Core.Bool.{true, false, ◌&&◌, cond, true≢false, false≢true}
use Prim.Native.Nat.{ℕ, ◌/◌, ◌<◌}
use native.Mathlib.Omega.{arith}
use borrow.Author.Tests.{leb-true, ltb-true}
use lib.Dec.{T, leb, ltb}
use lib.IntN.{ℤ, pos, negsuc, nat_abs, ◌-ℤ◌}
use lib.Signed.{lt_z, non_neg, shr_z}
use Rattle.whole.specs.laws.Bools.{and_left, and_right}
use Rattle.whole.specs.laws.Machine.{Within}
use Rattle.lattice.specs.Cell.{edge_good, coordinate_good}
use Rattle.tunnel.specs.declared.Point.{Point}
use Rattle.tunnel.specs.Place.{point_good, inside, axis_of}

-- a coordinate in its range is within ±10^10
pub near : (a : ℤ) → coordinate_good a ≡ true → Within a 10000000000
near (pos n) e = record { abs = leb-true n 10000000000 e }
near (negsuc n) e = record { abs = omega (arith, leb-true n 9999999999 (and_left (leb n 9999999999) true e)) }

-- an edge in its range is not 0, nor negative
pub edge-some : (e : ℤ) → edge_good e ≡ true → T (non_neg e) × (0 < nat_abs e)
edge-some (pos n) h = (tt, leb-true 1 n (and_left (leb 1 n) (leb n 1000) h))
edge-some (negsuc n) h = absurd (false≢true h)

pub zero-up : (z : ℤ) → lt_z z (pos 0) ≡ false → T (non_neg z)
zero-up (pos a) h = tt
zero-up (negsuc a) h = absurd (true≢false h)

-- a negative difference is outside, whatever its quotient
below : (z : ℤ) (edge side : ℕ) → lt_z z (pos 0) ≡ true → side ≡ inside (shr_z z edge) side
below (pos a) edge side h = absurd (let k : a < 0 = ltb-true a 0 h in omega arith)
below (negsuc a) edge side h = refl

pub axis-below : (point origin : ℤ) (edge side : ℕ) → lt_z (point -ℤ origin) (pos 0) ≡ true → side ≡ axis_of point origin edge side
unfolding axis_of
axis-below point origin edge side h = below (point -ℤ origin) edge side h

-- from 0 on the quotient of the naturals is the floor
from : (z : ℤ) (edge side : ℕ) → lt_z z (pos 0) ≡ false → cond (ltb (nat_abs z / edge) side) (nat_abs z / edge) side ≡ inside (shr_z z edge) side
from (pos a) edge side h = refl
from (negsuc a) edge side h = absurd (true≢false h)

pub axis-from : (point origin : ℤ) (edge side : ℕ) → lt_z (point -ℤ origin) (pos 0) ≡ false
    → cond (ltb (nat_abs (point -ℤ origin) / edge) side) (nat_abs (point -ℤ origin) / edge) side ≡ axis_of point origin edge side
unfolding axis_of
axis-from point origin edge side h = from (point -ℤ origin) edge side h

-- the coordinates of a point in range
pub record Good (p : Point) : Type 0 where
  pub x : coordinate_good p.x ≡ true
  pub y : coordinate_good p.y ≡ true
  pub z : coordinate_good p.z ≡ true

pub good : (p : Point) → point_good p ≡ true → Good p
unfolding point_good
good p e =
    let a = coordinate_good p.x in
    let b = coordinate_good p.y in
    let d = coordinate_good p.z in
    record { x = and_left a b (and_left (a && b) d e); y = and_right a b (and_left (a && b) d e); z = and_right (a && b) d e }
