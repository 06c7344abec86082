-- `pumps::entry::good_totals` tests poured and taken. Assumes nothing.
use mathlib.Core.Path.{ap, ap₂, ◌∙◌}
use mathlib.Core.Bool.{Bool, ◌&&◌}
use mir.Facts.{to_z-of_z}
use Rattle.pumps.specs.Three.{total_good}
use Rattle.pumps.proofs.entry.good_totals.Goals as goal

pub returns : goal.returns
returns c =
    let d = c in
    ap₂ (λ (a b : Bool). a && b) (c.good_total.ensures ∙ ap total_good (to_z-of_z d.ranges.poured)) (c.good_total-2.ensures ∙ ap total_good (to_z-of_z d.ranges.taken))
