-- `hostschemes::join::skw_scheme_join`: number and place of what join is answered, and the grid as it then stands. Assumes nothing.
use mathlib.Core.Path.{ap, ◌∙◌}
use Rattle.grid.specs.Outcome.{number_of, place_of}
use Rattle.hostschemes.proofs.join.skw_scheme_join.Goals as goal

pub returns : goal.returns
returns c =
    let e = c.join-a.ensures in
    record { number_is = c.number_of.ensures ∙ ap number_of e.answer-is; place_is = c.place_of.ensures ∙ ap place_of e.answer-is; grid-is = e.grid-is }
