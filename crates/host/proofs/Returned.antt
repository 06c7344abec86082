-- A signed number that passed a struct is what it was, and so is the struct. Assumes nothing.
use mathlib.Core.Path.{◌≡◌}
use mathlib.Core.Bool.{Bool}
use lib.IntN.{ℤ}
use mir.Syntax.{w64}
use mir.Val.{to_z, of_z, SFits}
use mir.ValLaws.{to_z-of_z}
use Rattle.host.specs.Given.{settings_in}

pub settings-back : (turbulent : Bool) (p x y z : ℤ) → SFits w64 p → SFits w64 x → SFits w64 y → SFits w64 z
    → settings_in turbulent (to_z w64 (of_z w64 p)) (to_z w64 (of_z w64 x)) (to_z w64 (of_z w64 y)) (to_z w64 (of_z w64 z)) ≡ settings_in turbulent p x y z
settings-back turbulent p x y z hp hx hy hz =
    λ i. settings_in turbulent (to_z-of_z w64 p hp i) (to_z-of_z w64 x hx i) (to_z-of_z w64 y hy i) (to_z-of_z w64 z hz i)
