-- `hostset::check::skw_check`: number and place of what the check answers. Assumes nothing.
use mathlib.Core.Path.{ap, ◌∙◌}
use Rattle.grid.specs.Outcome.{number_of, place_of}
use Rattle.hostset.proofs.check.skw_check.Goals as goal

pub returns : goal.returns
returns c =
    let e = c.check-a.ensures in
    record { number_is = c.number_of.ensures ∙ ap number_of e; place_is = c.place_of.ensures ∙ ap place_of e }
