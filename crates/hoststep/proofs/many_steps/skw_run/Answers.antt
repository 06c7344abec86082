-- `hoststep::many_steps::skw_run`: the run's own promise, the refusal that stopped it told as number and place. Assumes nothing.
use Rattle.host.proofs.Returned.{settings-back}
use Rattle.hoststep.proofs.Told.{run-told}
use Rattle.hoststep.proofs.many_steps.skw_run.Lts as lts
use Rattle.hoststep.proofs.many_steps.skw_run.Reads as reads
use Rattle.hoststep.proofs.many_steps.skw_run.Tie as tie
use Rattle.hoststep.proofs.many_steps.skw_run.Goals as goal

abbrev At-After-flags-1 : Type 0
At-After-flags-1 = lts.After-flags tie.the-claims reads.Pre reads.Post

abbrev At-After-parts-1 : Type 0
At-After-parts-1 = lts.After-parts tie.the-claims reads.Pre reads.Post

abbrev At-After-masses-1 : Type 0
At-After-masses-1 = lts.After-masses tie.the-claims reads.Pre reads.Post

abbrev At-After-fills-1 : Type 0
At-After-fills-1 = lts.After-fills tie.the-claims reads.Pre reads.Post

abbrev At-After-carry-1 : Type 0
At-After-carry-1 = lts.After-carry tie.the-claims reads.Pre reads.Post

abbrev At-After-words-1 : Type 0
At-After-words-1 = lts.After-words tie.the-claims reads.Pre reads.Post

abbrev At-After-count-1 : Type 0
At-After-count-1 = lts.After-count tie.the-claims reads.Pre reads.Post

abbrev At-After-flags2-1 : Type 0
At-After-flags2-1 = lts.After-flags2 tie.the-claims reads.Pre reads.Post

abbrev At-After-parts2-1 : Type 0
At-After-parts2-1 = lts.After-parts2 tie.the-claims reads.Pre reads.Post

abbrev At-After-masses2-1 : Type 0
At-After-masses2-1 = lts.After-masses2 tie.the-claims reads.Pre reads.Post

abbrev At-After-fills2-1 : Type 0
At-After-fills2-1 = lts.After-fills2 tie.the-claims reads.Pre reads.Post

abbrev At-After-carry2-1 : Type 0
At-After-carry2-1 = lts.After-carry2 tie.the-claims reads.Pre reads.Post

abbrev At-After-words2-1 : Type 0
At-After-words2-1 = lts.After-words2 tie.the-claims reads.Pre reads.Post

abbrev At-After-count2-1 : Type 0
At-After-count2-1 = lts.After-count2 tie.the-claims reads.Pre reads.Post

abbrev At-After-marks-1 : Type 0
At-After-marks-1 = lts.After-marks tie.the-claims reads.Pre reads.Post

abbrev At-After-number_of : Type 0
At-After-number_of = lts.After-number_of tie.the-claims reads.Pre reads.Post

pub shape_of-flags : goal.shape_of-flags
shape_of-flags c = let after-flags : At-After-flags-1 = search in after-flags.flags-1.given

pub shape_of-parts : goal.shape_of-parts
shape_of-parts c = let after-parts : At-After-parts-1 = search in after-parts.parts-1.given

pub shape_of-masses : goal.shape_of-masses
shape_of-masses c = let after-masses : At-After-masses-1 = search in after-masses.masses-1.given

pub shape_of-fills : goal.shape_of-fills
shape_of-fills c = let after-fills : At-After-fills-1 = search in after-fills.fills-1.given

pub shape_of-carry : goal.shape_of-carry
shape_of-carry c = let after-carry : At-After-carry-1 = search in after-carry.carry-1.given

pub shape_of-words : goal.shape_of-words
shape_of-words c = let after-words : At-After-words-1 = search in after-words.words-1.given

pub shape_of-count : goal.shape_of-count
shape_of-count c = let after-count : At-After-count-1 = search in after-count.count-1.given

pub shape_of-flags2 : goal.shape_of-flags2
shape_of-flags2 c = let after-flags2 : At-After-flags2-1 = search in after-flags2.flags2-1.given

pub shape_of-parts2 : goal.shape_of-parts2
shape_of-parts2 c = let after-parts2 : At-After-parts2-1 = search in after-parts2.parts2-1.given

pub shape_of-masses2 : goal.shape_of-masses2
shape_of-masses2 c = let after-masses2 : At-After-masses2-1 = search in after-masses2.masses2-1.given

pub shape_of-fills2 : goal.shape_of-fills2
shape_of-fills2 c = let after-fills2 : At-After-fills2-1 = search in after-fills2.fills2-1.given

pub shape_of-carry2 : goal.shape_of-carry2
shape_of-carry2 c = let after-carry2 : At-After-carry2-1 = search in after-carry2.carry2-1.given

pub shape_of-words2 : goal.shape_of-words2
shape_of-words2 c = let after-words2 : At-After-words2-1 = search in after-words2.words2-1.given

pub shape_of-count2 : goal.shape_of-count2
shape_of-count2 c = let after-count2 : At-After-count2-1 = search in after-count2.count2-1.given

pub shape_of-marks : goal.shape_of-marks
shape_of-marks c = let after-marks : At-After-marks-1 = search in after-marks.marks-1.given

pub returns : goal.returns
returns c =
    let after-number-of : At-After-number_of = search in
    let after_run = after-number-of in
    let v = after_run in
    let a = v.args in
    let f = v.ranges in
    run-told (settings-back a.turbulent a.p a.gx a.gy a.gz f.p f.gx f.gy f.gz) after_run.run-ran.ensures after-number-of.number_of.ensures c.place_of.ensures
