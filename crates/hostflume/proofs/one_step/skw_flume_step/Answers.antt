-- `hostflume::one_step::skw_flume_step`: the step's own promise, its answer told as number and place. Assumes nothing.
use Rattle.hostflume.proofs.Told.{settings-back, step-told}
use Rattle.hostflume.proofs.one_step.skw_flume_step.Lts as lts
use Rattle.hostflume.proofs.one_step.skw_flume_step.Reads as reads
use Rattle.hostflume.proofs.one_step.skw_flume_step.Tie as tie
use Rattle.hostflume.proofs.one_step.skw_flume_step.Goals as goal

abbrev At-After-flags2-1 : Type 0
At-After-flags2-1 = lts.After-flags2 tie.the-claims reads.Pre reads.Post

abbrev At-After-parts2-1 : Type 0
At-After-parts2-1 = lts.After-parts2 tie.the-claims reads.Pre reads.Post

abbrev At-After-masses2-1 : Type 0
At-After-masses2-1 = lts.After-masses2 tie.the-claims reads.Pre reads.Post

abbrev At-After-fills2-1 : Type 0
At-After-fills2-1 = lts.After-fills2 tie.the-claims reads.Pre reads.Post

abbrev At-After-carry2-1 : Type 0
At-After-carry2-1 = lts.After-carry2 tie.the-claims reads.Pre reads.Post

abbrev At-After-marks-1 : Type 0
At-After-marks-1 = lts.After-marks tie.the-claims reads.Pre reads.Post

abbrev At-After-place_of : Type 0
At-After-place_of = lts.After-place_of tie.the-claims reads.Pre reads.Post

abbrev At-After-step-a : Type 0
At-After-step-a = lts.After-step tie.the-claims reads.Pre reads.Post

abbrev At-Start : Type 0
At-Start = lts.Start tie.the-claims reads.Pre reads.Post

pub shape_of-flags2 : goal.shape_of-flags2
shape_of-flags2 c = let after-flags2 : At-After-flags2-1 = search in after-flags2.flags2-1.given

pub shape_of-parts2 : goal.shape_of-parts2
shape_of-parts2 c = let after-parts2 : At-After-parts2-1 = search in after-parts2.parts2-1.given

pub shape_of-masses2 : goal.shape_of-masses2
shape_of-masses2 c = let after-masses2 : At-After-masses2-1 = search in after-masses2.masses2-1.given

pub shape_of-fills2 : goal.shape_of-fills2
shape_of-fills2 c = let after-fills2 : At-After-fills2-1 = search in after-fills2.fills2-1.given

pub shape_of-carry2 : goal.shape_of-carry2
shape_of-carry2 c = let after-carry2 : At-After-carry2-1 = search in after-carry2.carry2-1.given

pub shape_of-marks : goal.shape_of-marks
shape_of-marks c = let after-marks : At-After-marks-1 = search in after-marks.marks-1.given

pub returns : goal.returns
returns c =
    let after-place-of : At-After-place_of = search in let after-step : At-After-step-a = search in let v : At-Start = search in
    let a = v.args in
    let f = v.ranges in
    step-told (settings-back a.turbulent a.p a.gx a.gz f.p f.gx f.gz) after-step.step-a.ensures c.number_of.ensures after-place-of.place_of.ensures
