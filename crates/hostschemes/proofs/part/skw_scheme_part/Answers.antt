-- `hostschemes::part::skw_scheme_part`: number and place of what part is answered, and the own flags as it then stands. Assumes nothing.
use mathlib.Core.Path.{ap, ◌∙◌}
use Rattle.grid.specs.Outcome.{number_of, place_of}
use Rattle.hostschemes.proofs.part.skw_scheme_part.Goals as goal

pub returns : goal.returns
returns c =
    let e = c.part-a.ensures in
    record { number_is = c.number_of.ensures ∙ ap number_of e.answer-is; place_is = c.place_of.ensures ∙ ap place_of e.answer-is; own_is = e.own_is }
