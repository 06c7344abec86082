-- `flumefinish::finishing::finished`: the conversion and the fills make the next state; test 8 passes where all was found fair, else the scan answers it.
-- Assumes nothing.
use Rattle.flumefinish.proofs.Finishes.{turning, turned-level, filling, set-lengths, finished-fair, finished-judged}
use Rattle.flumefinish.proofs.finishing.finished.Lts as lts
use Rattle.flumefinish.proofs.finishing.finished.Reads as reads
use Rattle.flumefinish.proofs.finishing.finished.Tie as tie
use Rattle.flumefinish.proofs.finishing.finished.Goals as goal

abbrev At-After-slice_known-6-1 : Type 0
At-After-slice_known-6-1 = lts.After-slice_known6 tie.the-claims reads.Pre reads.Post

abbrev At-Start : Type 0
At-Start = lts.Start tie.the-claims reads.Pre reads.Post

abbrev At-After-level-h : Type 0
At-After-level-h = lts.After-level tie.the-claims reads.Pre reads.Post

abbrev At-After-turned9-a : Type 0
At-After-turned9-a = lts.After-turned9 tie.the-claims reads.Pre reads.Post

abbrev At-After-new_fills9-b : Type 0
At-After-new_fills9-b = lts.After-new_fills9 tie.the-claims reads.Pre reads.Post

abbrev At-After-flags2-1 : Type 0
At-After-flags2-1 = lts.After-flags2 tie.the-claims reads.Pre reads.Post

abbrev At-After-parts2-1 : Type 0
At-After-parts2-1 = lts.After-parts2 tie.the-claims reads.Pre reads.Post

abbrev At-After-masses2-1 : Type 0
At-After-masses2-1 = lts.After-masses2 tie.the-claims reads.Pre reads.Post

abbrev At-After-fills2-1 : Type 0
At-After-fills2-1 = lts.After-fills2 tie.the-claims reads.Pre reads.Post

abbrev At-After-carry2-1 : Type 0
At-After-carry2-1 = lts.After-carry2 tie.the-claims reads.Pre reads.Post

abbrev At-After-marks-1 : Type 0
At-After-marks-1 = lts.After-marks tie.the-claims reads.Pre reads.Post

-- both passes are made
module _ (d : At-After-slice_known-6-1) where
  abbrev start : At-Start
  start = search

  abbrev flat : At-After-level-h
  flat = search

  abbrev turn : At-After-turned9-a
  turn = search

  abbrev fill : At-After-new_fills9-b
  fill = search

pub turned9-a-requires : goal.turned9-a-requires
turned9-a-requires c = let after-level : At-After-level-h = search in let the-start : At-Start = search in turning after-level.level-h.ensures the-start.requires

pub new_fills9-b-requires : goal.new_fills9-b-requires
new_fills9-b-requires c = let after-turned9 : At-After-turned9-a = search in let after-level : At-After-level-h = search in let the-start : At-Start = search in filling the-start.requires (turned-level after-level.level-h.ensures after-turned9.turned9-a.ensures)

pub shape_of-flags2-then-fair-a : goal.shape_of-flags2-then-fair-a
shape_of-flags2-then-fair-a c = let after-flags2 : At-After-flags2-1 = search in after-flags2.flags2-1.given

pub shape_of-parts2-then-fair-a : goal.shape_of-parts2-then-fair-a
shape_of-parts2-then-fair-a c = let after-parts2 : At-After-parts2-1 = search in after-parts2.parts2-1.given

pub shape_of-masses2-then-fair-a : goal.shape_of-masses2-then-fair-a
shape_of-masses2-then-fair-a c = let after-masses2 : At-After-masses2-1 = search in after-masses2.masses2-1.given

pub shape_of-fills2-then-fair-a : goal.shape_of-fills2-then-fair-a
shape_of-fills2-then-fair-a c = let after-fills2 : At-After-fills2-1 = search in after-fills2.fills2-1.given

pub shape_of-carry2-then-fair-a : goal.shape_of-carry2-then-fair-a
shape_of-carry2-then-fair-a c = let after-carry2 : At-After-carry2-1 = search in after-carry2.carry2-1.given

pub shape_of-marks-then-fair-a : goal.shape_of-marks-then-fair-a
shape_of-marks-then-fair-a c = let after-marks : At-After-marks-1 = search in after-marks.marks-1.given

pub returns-then-fair-a : goal.returns-then-fair-a
returns-then-fair-a c =
    let d : At-After-slice_known-6-1 = search in
    let w = turned-level (flat d).level-h.ensures (turn d).turned9-a.ensures in
    finished-fair (start d).requires w (fill d).new_fills9-b.ensures c.if-fair-a.true

pub judged-requires : goal.judged-requires
judged-requires c =
    let d : At-After-slice_known-6-1 = search in
    let w = turned-level (flat d).level-h.ensures (turn d).turned9-a.ensures in
    set-lengths (start d).requires w (fill d).new_fills9-b.ensures

pub shape_of-flags2 : goal.shape_of-flags2
shape_of-flags2 c = let after-flags2 : At-After-flags2-1 = search in after-flags2.flags2-1.given

pub shape_of-parts2 : goal.shape_of-parts2
shape_of-parts2 c = let after-parts2 : At-After-parts2-1 = search in after-parts2.parts2-1.given

pub shape_of-masses2 : goal.shape_of-masses2
shape_of-masses2 c = let after-masses2 : At-After-masses2-1 = search in after-masses2.masses2-1.given

pub shape_of-fills2 : goal.shape_of-fills2
shape_of-fills2 c = let after-fills2 : At-After-fills2-1 = search in after-fills2.fills2-1.given

pub shape_of-carry2 : goal.shape_of-carry2
shape_of-carry2 c = let after-carry2 : At-After-carry2-1 = search in after-carry2.carry2-1.given

pub shape_of-marks : goal.shape_of-marks
shape_of-marks c = let after-marks : At-After-marks-1 = search in after-marks.marks-1.given

pub returns : goal.returns
returns c =
    let d : At-After-slice_known-6-1 = search in
    let w = turned-level (flat d).level-h.ensures (turn d).turned9-a.ensures in
    finished-judged (start d).requires w (fill d).new_fills9-b.ensures c.judged.ensures
