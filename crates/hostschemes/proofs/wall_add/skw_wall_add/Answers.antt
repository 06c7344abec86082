-- `hostschemes::wall_add::skw_wall_add`: number and place of what a wall asked for is answered, and the map as it then stands. Assumes nothing.
use mathlib.Core.Path.{ap, ◌∙◌}
use Rattle.grid.specs.Outcome.{number_of, place_of}
use Rattle.hostschemes.proofs.wall_add.skw_wall_add.Goals as goal

pub returns : goal.returns
returns c =
    let e = c.wall_add-a.ensures in
    record { number_is = c.number_of.ensures ∙ ap number_of e.answer-is; place_is = c.place_of.ensures ∙ ap place_of e.answer-is; map_is = e.map_is }
