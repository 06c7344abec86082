-- A signed number that passed a struct is what it was, and so is the struct. Assumes nothing.
use mathlib.Core.Path.{◌≡◌}
use Prim.Native.Nat.{ℕ}
use lib.IntN.{ℤ}
use mir.Syntax.{w64}
use mir.Val.{to_z, of_z, SFits}
use mir.ValLaws.{to_z-of_z}
use Rattle.hosttunnel.specs.Promise.{millimetres, frame_of}

pub point-back : (x y z : ℤ) → SFits w64 x → SFits w64 y → SFits w64 z
    → millimetres (to_z w64 (of_z w64 x)) (to_z w64 (of_z w64 y)) (to_z w64 (of_z w64 z)) ≡ millimetres x y z
point-back x y z hx hy hz = λ i. millimetres (to_z-of_z w64 x hx i) (to_z-of_z w64 y hy i) (to_z-of_z w64 z hz i)

pub frame_back : (nx ny nz : ℕ) (e x y z : ℤ) → SFits w64 e → SFits w64 x → SFits w64 y → SFits w64 z
    → frame_of nx ny nz (to_z w64 (of_z w64 e)) (to_z w64 (of_z w64 x)) (to_z w64 (of_z w64 y)) (to_z w64 (of_z w64 z)) ≡ frame_of nx ny nz e x y z
frame_back nx ny nz e x y z he hx hy hz =
    λ i. frame_of nx ny nz (to_z-of_z w64 e he i) (to_z-of_z w64 x hx i) (to_z-of_z w64 y hy i) (to_z-of_z w64 z hz i)
