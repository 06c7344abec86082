-- `hostflume::check::skw_flume_check`: number and place of what the check answers. Assumes nothing.
use mathlib.Core.Path.{ap, ◌∙◌}
use Rattle.grid.specs.Outcome.{number_of, place_of}
use Rattle.hostflume.proofs.check.skw_flume_check.Lts as lts
use Rattle.hostflume.proofs.check.skw_flume_check.Reads as reads
use Rattle.hostflume.proofs.check.skw_flume_check.Tie as tie
use Rattle.hostflume.proofs.check.skw_flume_check.Goals as goal

abbrev At-After-place_of : Type 0
At-After-place_of = lts.After-place_of tie.the-claims reads.Pre reads.Post

abbrev At-After-check-a : Type 0
At-After-check-a = lts.After-check tie.the-claims reads.Pre reads.Post

pub returns : goal.returns
returns c =
    let after-place-of : At-After-place_of = search in let after_check : At-After-check-a = search in let e = after_check.check-a.ensures in
    record { number_is = c.number_of.ensures ∙ ap number_of e; place_is = after-place-of.place_of.ensures ∙ ap place_of e }
