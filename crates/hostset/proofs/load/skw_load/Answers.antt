-- `hostset::load::skw_load`: number and place of what loading answers. Assumes nothing.
use mathlib.Core.Path.{ap, ◌∙◌}
use Rattle.grid.specs.Outcome.{number_of, place_of}
use Rattle.hostset.proofs.load.skw_load.Goals as goal

pub returns : goal.returns
returns c =
    let e = c.load-a.ensures in
    record { number_is = c.number_of.ensures ∙ ap number_of e; place_is = c.place_of.ensures ∙ ap place_of e }
