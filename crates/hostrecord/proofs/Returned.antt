-- A signed number that passed a struct is what it was, and so is the struct. Assumes nothing.
use mathlib.Core.Path.{◌≡◌}
use lib.IntN.{ℤ}
use mir.Syntax.{w64}
use mir.Val.{to_z, of_z, SFits}
use mir.ValLaws.{to_z-of_z}
use Rattle.hostrecord.specs.Promise.{site_of}

pub site-back : (e x y z : ℤ) → SFits w64 e → SFits w64 x → SFits w64 y → SFits w64 z
    → site_of (to_z w64 (of_z w64 e)) (to_z w64 (of_z w64 x)) (to_z w64 (of_z w64 y)) (to_z w64 (of_z w64 z)) ≡ site_of e x y z
site-back e x y z he hx hy hz =
    λ i. site_of (to_z-of_z w64 e he i) (to_z-of_z w64 x hx i) (to_z-of_z w64 y hy i) (to_z-of_z w64 z hz i)
