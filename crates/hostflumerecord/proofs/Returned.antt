-- A signed number that passed a struct is what it was, and so is the struct. Assumes nothing.
use mathlib.Core.Path.{◌≡◌}
use lib.IntN.{ℤ}
use mir.Syntax.{w64}
use mir.Val.{to_z, of_z, SFits}
use mir.ValLaws.{to_z-of_z}
use Rattle.hostflumerecord.specs.Promise.{flume_settings_of, flume_site_of}

pub settings-back : (p x z : ℤ) → SFits w64 p → SFits w64 x → SFits w64 z
    → flume_settings_of (to_z w64 (of_z w64 p)) (to_z w64 (of_z w64 x)) (to_z w64 (of_z w64 z)) ≡ flume_settings_of p x z
settings-back p x z hp hx hz = λ i. flume_settings_of (to_z-of_z w64 p hp i) (to_z-of_z w64 x hx i) (to_z-of_z w64 z hz i)

pub site-back : (e x z : ℤ) → SFits w64 e → SFits w64 x → SFits w64 z
    → flume_site_of (to_z w64 (of_z w64 e)) (to_z w64 (of_z w64 x)) (to_z w64 (of_z w64 z)) ≡ flume_site_of e x z
site-back e x z he hx hz = λ i. flume_site_of (to_z-of_z w64 e he i) (to_z-of_z w64 x hx i) (to_z-of_z w64 z hz i)
