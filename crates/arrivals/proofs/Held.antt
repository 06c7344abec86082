-- What the machine reads back of a signed number that fits is the number: by name of the number, where nothing shows it; and a difference of two that
-- fit 32 bits is far from the end of 64. Assumes nothing.
use mathlib.Core.Path.{◌≡◌}
use Prim.Native.Nat.{◌<◌, ◌≤◌, ◌^◌}
use native.Mathlib.Omega.{arith}
use lib.IntN.{ℤ, nat_abs, ◌-ℤ◌}
use lib.Signed.{mag, nat_abs-le}
use mir.Syntax.{w32, w64}
use mir.Val.{to_z, of_z, hbits}
use mir.Facts.{to_z-of_z}
use Rattle.whole.specs.laws.Bounds.{abs-sub}
use Rattle.whole.specs.laws.Machine.{Within}

pub held32 : (z : ℤ) → mag z < 2 ^ hbits w32 → to_z w32 (of_z w32 z) ≡ z
held32 z h = to_z-of_z {w = w32} {z = z} (record { sfits = h })

pub held64 : (z : ℤ) → mag z < 2 ^ hbits w64 → to_z w64 (of_z w64 z) ≡ z
held64 z h = to_z-of_z {w = w64} {z = z} (record { sfits = h })

pub apart_in : (a b : ℤ) → mag a < 2 ^ hbits w32 → mag b < 2 ^ hbits w32 → Within (a -ℤ b) 1000000000000
apart_in a b h k =
    let x : nat_abs a ≤ 2147483648 = nat_abs-le a h in
    let y : nat_abs b ≤ 2147483648 = nat_abs-le b k in
    record { abs = omega (arith, abs-sub a b) }
