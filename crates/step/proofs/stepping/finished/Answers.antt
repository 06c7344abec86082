-- `step::stepping::finished`: the conversion and the fills make the next state; test 8 passes where all was found fair, else the scan answers it.
-- Assumes nothing.
use Rattle.step.proofs.Finishes.{turning, filling, set-lengths, finished-fair, finished-judged}
use Rattle.step.proofs.stepping.finished.Lts as lts
use Rattle.step.proofs.stepping.finished.Reads as reads
use Rattle.step.proofs.stepping.finished.Tie as tie
use Rattle.step.proofs.stepping.finished.Goals as goal

abbrev At-After-new_fills-b : Type 0
At-After-new_fills-b = lts.After-new_fills tie.the-claims reads.Pre reads.Post

abbrev At-Start : Type 0
At-Start = lts.Start tie.the-claims reads.Pre reads.Post

abbrev At-After-turned-a : Type 0
At-After-turned-a = lts.After-turned tie.the-claims reads.Pre reads.Post

abbrev At-After-flags2-1 : Type 0
At-After-flags2-1 = lts.After-flags2 tie.the-claims reads.Pre reads.Post

abbrev At-After-parts2-1 : Type 0
At-After-parts2-1 = lts.After-parts2 tie.the-claims reads.Pre reads.Post

abbrev At-After-masses2-1 : Type 0
At-After-masses2-1 = lts.After-masses2 tie.the-claims reads.Pre reads.Post

abbrev At-After-fills2-1 : Type 0
At-After-fills2-1 = lts.After-fills2 tie.the-claims reads.Pre reads.Post

abbrev At-After-carry2-1 : Type 0
At-After-carry2-1 = lts.After-carry2 tie.the-claims reads.Pre reads.Post

abbrev At-After-marks-1 : Type 0
At-After-marks-1 = lts.After-marks tie.the-claims reads.Pre reads.Post

-- both passes are made
module _ (d : At-After-new_fills-b) where
  abbrev start : At-Start
  start = search

  abbrev turn : At-After-turned-a
  turn = search

pub turned-a-requires : goal.turned-a-requires
turned-a-requires c = let the-start : At-Start = search in turning the-start.requires

pub new_fills-b-requires : goal.new_fills-b-requires
new_fills-b-requires c = let after-turned : At-After-turned-a = search in let the-start : At-Start = search in filling the-start.requires after-turned.turned-a.ensures

pub shape_of-flags2-then-fair-a : goal.shape_of-flags2-then-fair-a
shape_of-flags2-then-fair-a c = let after-flags2 : At-After-flags2-1 = search in after-flags2.flags2-1.given

pub shape_of-parts2-then-fair-a : goal.shape_of-parts2-then-fair-a
shape_of-parts2-then-fair-a c = let after-parts2 : At-After-parts2-1 = search in after-parts2.parts2-1.given

pub shape_of-masses2-then-fair-a : goal.shape_of-masses2-then-fair-a
shape_of-masses2-then-fair-a c = let after-masses2 : At-After-masses2-1 = search in after-masses2.masses2-1.given

pub shape_of-fills2-then-fair-a : goal.shape_of-fills2-then-fair-a
shape_of-fills2-then-fair-a c = let after-fills2 : At-After-fills2-1 = search in after-fills2.fills2-1.given

pub shape_of-carry2-then-fair-a : goal.shape_of-carry2-then-fair-a
shape_of-carry2-then-fair-a c = let after-carry2 : At-After-carry2-1 = search in after-carry2.carry2-1.given

pub shape_of-marks-then-fair-a : goal.shape_of-marks-then-fair-a
shape_of-marks-then-fair-a c = let after-marks : At-After-marks-1 = search in after-marks.marks-1.given

pub returns-then-fair-a : goal.returns-then-fair-a
returns-then-fair-a c = let d : At-After-new_fills-b = search in finished-fair (start d).requires (turn d).turned-a.ensures d.new_fills-b.ensures c.if-fair-a.true

pub judged-requires : goal.judged-requires
judged-requires c = let d : At-After-new_fills-b = search in set-lengths (start d).requires (turn d).turned-a.ensures d.new_fills-b.ensures

pub shape_of-flags2 : goal.shape_of-flags2
shape_of-flags2 c = let after-flags2 : At-After-flags2-1 = search in after-flags2.flags2-1.given

pub shape_of-parts2 : goal.shape_of-parts2
shape_of-parts2 c = let after-parts2 : At-After-parts2-1 = search in after-parts2.parts2-1.given

pub shape_of-masses2 : goal.shape_of-masses2
shape_of-masses2 c = let after-masses2 : At-After-masses2-1 = search in after-masses2.masses2-1.given

pub shape_of-fills2 : goal.shape_of-fills2
shape_of-fills2 c = let after-fills2 : At-After-fills2-1 = search in after-fills2.fills2-1.given

pub shape_of-carry2 : goal.shape_of-carry2
shape_of-carry2 c = let after-carry2 : At-After-carry2-1 = search in after-carry2.carry2-1.given

pub shape_of-marks : goal.shape_of-marks
shape_of-marks c = let after-marks : At-After-marks-1 = search in after-marks.marks-1.given

pub returns : goal.returns
returns c = let d : At-After-new_fills-b = search in finished-judged (start d).requires (turn d).turned-a.ensures d.new_fills-b.ensures c.judged.ensures
