-- `flumegrid::entry::good_settings` is test 3 of the level settings. Assumes nothing.
use mathlib.Core.Path.{◌≡◌, ◌∙◌}
use mathlib.Core.Bool.{◌&&◌}
use lib.IntN.{ℤ, pos}
use mir.Syntax.{w64}
use mir.Val.{SFits, to_z, of_z}
use mir.Facts.{to_z-of_z}
use Rattle.lattice.specs.Cell.{relaxation_good, gravity_good}
use Rattle.grid.specs.Outcome.{settings_good}
use Rattle.flumegrid.proofs.entry.good_settings.Goals as goal

-- numbers that the machine held
held : (p x z : ℤ) → SFits w64 p → SFits w64 x → SFits w64 z
    → (relaxation_good (to_z w64 (of_z w64 p)) && gravity_good (to_z w64 (of_z w64 x)) (pos 0) (to_z w64 (of_z w64 z))) ≡ (relaxation_good p && gravity_good x (pos 0) z)
held p x z e f g i = relaxation_good (to_z-of_z {w = w64} e i) && gravity_good (to_z-of_z {w = w64} f i) (pos 0) (to_z-of_z {w = w64} g i)

pub returns : goal.returns
unfolding settings_good
returns c =
    let t = c.struct_told-1.given in
    let s = c.args.g in
    c.good_settings.ensures ∙ held s.p s.gx s.gz (record { sfits = t.0.1 }) (record { sfits = t.1.0.1 }) (record { sfits = t.1.1.0.1 })
