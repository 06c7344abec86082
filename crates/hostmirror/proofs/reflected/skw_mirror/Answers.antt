-- `hostmirror::reflected::skw_mirror`: number and place of what the mirror is answered, and the second set and its index as they then stand. Assumes nothing.
use mathlib.Core.Path.{ap, ◌∙◌}
use Rattle.grid.specs.Outcome.{number_of, place_of}
use Rattle.hostmirror.proofs.reflected.skw_mirror.Goals as goal

pub shape_of-flags2 : goal.shape_of-flags2
shape_of-flags2 c = c.flags2-1.given

pub shape_of-parts2 : goal.shape_of-parts2
shape_of-parts2 c = c.parts2-1.given

pub shape_of-masses2 : goal.shape_of-masses2
shape_of-masses2 c = c.masses2-1.given

pub shape_of-fills2 : goal.shape_of-fills2
shape_of-fills2 c = c.fills2-1.given

pub shape_of-carry2 : goal.shape_of-carry2
shape_of-carry2 c = c.carry2-1.given

pub shape_of-words2 : goal.shape_of-words2
shape_of-words2 c = c.words2-1.given

pub shape_of-count2 : goal.shape_of-count2
shape_of-count2 c = c.count2-1.given

pub returns : goal.returns
returns c =
    let e = c.mirrored-a.ensures in
    record { number_is = c.number_of.ensures ∙ ap number_of e.answer-is; place_is = c.place_of.ensures ∙ ap place_of e.answer-is; second_is = e.second_is }
