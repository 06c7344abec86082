-- `step::stepping::advanced`: a step onto a set whose flags are all 1, of which nothing is known. Assumes nothing.
use mathlib.Core.Path.{◌∙◌}
use Rattle.step.proofs.Finishes.{soiled}
use Rattle.step.proofs.stepping.advanced.Lts as lts
use Rattle.step.proofs.stepping.advanced.Reads as reads
use Rattle.step.proofs.stepping.advanced.Tie as tie
use Rattle.step.proofs.stepping.advanced.Goals as goal

abbrev At-After-put_all : Type 0
At-After-put_all = lts.After-put_all tie.the-claims reads.Pre reads.Post

abbrev At-Start : Type 0
At-Start = lts.Start tie.the-claims reads.Pre reads.Post

abbrev At-After-flags2-2-1 : Type 0
At-After-flags2-2-1 = lts.After-flags22 tie.the-claims reads.Pre reads.Post

abbrev At-After-flags2-1 : Type 0
At-After-flags2-1 = lts.After-flags2 tie.the-claims reads.Pre reads.Post

abbrev At-After-parts2-1 : Type 0
At-After-parts2-1 = lts.After-parts2 tie.the-claims reads.Pre reads.Post

abbrev At-After-masses2-1 : Type 0
At-After-masses2-1 = lts.After-masses2 tie.the-claims reads.Pre reads.Post

abbrev At-After-fills2-1 : Type 0
At-After-fills2-1 = lts.After-fills2 tie.the-claims reads.Pre reads.Post

abbrev At-After-carry2-1 : Type 0
At-After-carry2-1 = lts.After-carry2 tie.the-claims reads.Pre reads.Post

abbrev At-After-marks-1 : Type 0
At-After-marks-1 = lts.After-marks tie.the-claims reads.Pre reads.Post

abbrev At-After-resumed : Type 0
At-After-resumed = lts.After-resumed tie.the-claims reads.Pre reads.Post

pub resumed-requires : goal.resumed-requires
resumed-requires c = let after-put-all : At-After-put_all = search in let start : At-Start = search in soiled after-put-all.put_all.ensures start.requires

pub shape_of-flags2 : goal.shape_of-flags2
shape_of-flags2 c = let after-flags22 : At-After-flags2-2-1 = search in let after-flags2 : At-After-flags2-1 = search in after-flags22.flags2-2-1.given ∙ after-flags2.flags2-1.given

pub shape_of-parts2 : goal.shape_of-parts2
shape_of-parts2 c = let after-parts2 : At-After-parts2-1 = search in after-parts2.parts2-1.given

pub shape_of-masses2 : goal.shape_of-masses2
shape_of-masses2 c = let after-masses2 : At-After-masses2-1 = search in after-masses2.masses2-1.given

pub shape_of-fills2 : goal.shape_of-fills2
shape_of-fills2 c = let after-fills2 : At-After-fills2-1 = search in after-fills2.fills2-1.given

pub shape_of-carry2 : goal.shape_of-carry2
shape_of-carry2 c = let after-carry2 : At-After-carry2-1 = search in after-carry2.carry2-1.given

pub shape_of-marks : goal.shape_of-marks
shape_of-marks c = let after-marks : At-After-marks-1 = search in after-marks.marks-1.given

pub returns : goal.returns
returns c = let after-resumed : At-After-resumed = search in after-resumed.resumed.ensures
