-- `flumeturns::turns::turn`: the step goes from the set that holds the state to the other one, and leaves the first as it is. Assumes nothing.
use mathlib.Core.Path.{refl}
use Rattle.flumeturns.proofs.Runs.{resuming-back, resuming-forth, crossed-back, crossed-forth}
use Rattle.flumeturns.proofs.turns.turn.Lts as lts
use Rattle.flumeturns.proofs.turns.turn.Reads as reads
use Rattle.flumeturns.proofs.turns.turn.Tie as tie
use Rattle.flumeturns.proofs.turns.turn.Goals as goal

abbrev At-Then-back : Type 0
At-Then-back = lts.Then1 tie.the-claims reads.Pre reads.Post

abbrev At-Start : Type 0
At-Start = lts.Start tie.the-claims reads.Pre reads.Post

abbrev At-After-flags-1 : Type 0
At-After-flags-1 = lts.After-flags tie.the-claims reads.Pre reads.Post

abbrev At-After-parts-1 : Type 0
At-After-parts-1 = lts.After-parts tie.the-claims reads.Pre reads.Post

abbrev At-After-masses-1 : Type 0
At-After-masses-1 = lts.After-masses tie.the-claims reads.Pre reads.Post

abbrev At-After-fills-1 : Type 0
At-After-fills-1 = lts.After-fills tie.the-claims reads.Pre reads.Post

abbrev At-After-carry-1 : Type 0
At-After-carry-1 = lts.After-carry tie.the-claims reads.Pre reads.Post

abbrev At-After-marks-1 : Type 0
At-After-marks-1 = lts.After-marks tie.the-claims reads.Pre reads.Post

abbrev At-After-resumed : Type 0
At-After-resumed = lts.After-resumed tie.the-claims reads.Pre reads.Post

abbrev At-Else-back : Type 0
At-Else-back = lts.Else1 tie.the-claims reads.Pre reads.Post

abbrev At-After-flags2-1 : Type 0
At-After-flags2-1 = lts.After-flags2 tie.the-claims reads.Pre reads.Post

abbrev At-After-parts2-1 : Type 0
At-After-parts2-1 = lts.After-parts2 tie.the-claims reads.Pre reads.Post

abbrev At-After-masses2-1 : Type 0
At-After-masses2-1 = lts.After-masses2 tie.the-claims reads.Pre reads.Post

abbrev At-After-fills2-1 : Type 0
At-After-fills2-1 = lts.After-fills2 tie.the-claims reads.Pre reads.Post

abbrev At-After-carry2-1 : Type 0
At-After-carry2-1 = lts.After-carry2 tie.the-claims reads.Pre reads.Post

abbrev At-After-resumed-2 : Type 0
At-After-resumed-2 = lts.After-resumed2 tie.the-claims reads.Pre reads.Post

pub resumed-requires : goal.resumed-requires
resumed-requires c = let then1 : At-Then-back = search in let start : At-Start = search in resuming-back _ _ _ _ _ _ then1.if-back.true start.requires

pub shape_of-flags-then-back : goal.shape_of-flags-then-back
shape_of-flags-then-back c = let after-flags : At-After-flags-1 = search in after-flags.flags-1.given

pub shape_of-parts-then-back : goal.shape_of-parts-then-back
shape_of-parts-then-back c = let after-parts : At-After-parts-1 = search in after-parts.parts-1.given

pub shape_of-masses-then-back : goal.shape_of-masses-then-back
shape_of-masses-then-back c = let after-masses : At-After-masses-1 = search in after-masses.masses-1.given

pub shape_of-fills-then-back : goal.shape_of-fills-then-back
shape_of-fills-then-back c = let after-fills : At-After-fills-1 = search in after-fills.fills-1.given

pub shape_of-carry-then-back : goal.shape_of-carry-then-back
shape_of-carry-then-back c = let after-carry : At-After-carry-1 = search in after-carry.carry-1.given

pub shape_of-flags2-then-back : goal.shape_of-flags2-then-back
shape_of-flags2-then-back c = refl

pub shape_of-parts2-then-back : goal.shape_of-parts2-then-back
shape_of-parts2-then-back c = refl

pub shape_of-masses2-then-back : goal.shape_of-masses2-then-back
shape_of-masses2-then-back c = refl

pub shape_of-fills2-then-back : goal.shape_of-fills2-then-back
shape_of-fills2-then-back c = refl

pub shape_of-carry2-then-back : goal.shape_of-carry2-then-back
shape_of-carry2-then-back c = refl

pub shape_of-marks-then-back : goal.shape_of-marks-then-back
shape_of-marks-then-back c = let after-marks : At-After-marks-1 = search in after-marks.marks-1.given

pub returns-then-back : goal.returns-then-back
returns-then-back c = let after-resumed : At-After-resumed = search in let then1 : At-Then-back = search in crossed-back _ _ _ _ _ _ _ _ then1.if-back.true after-resumed.resumed.ensures

pub resumed-requires-2 : goal.resumed-requires-2
resumed-requires-2 c = let else1 : At-Else-back = search in let start : At-Start = search in resuming-forth _ _ _ _ _ _ else1.if-back.false start.requires

pub shape_of-flags : goal.shape_of-flags
shape_of-flags c = refl

pub shape_of-parts : goal.shape_of-parts
shape_of-parts c = refl

pub shape_of-masses : goal.shape_of-masses
shape_of-masses c = refl

pub shape_of-fills : goal.shape_of-fills
shape_of-fills c = refl

pub shape_of-carry : goal.shape_of-carry
shape_of-carry c = refl

pub shape_of-flags2 : goal.shape_of-flags2
shape_of-flags2 c = let after-flags2 : At-After-flags2-1 = search in after-flags2.flags2-1.given

pub shape_of-parts2 : goal.shape_of-parts2
shape_of-parts2 c = let after-parts2 : At-After-parts2-1 = search in after-parts2.parts2-1.given

pub shape_of-masses2 : goal.shape_of-masses2
shape_of-masses2 c = let after-masses2 : At-After-masses2-1 = search in after-masses2.masses2-1.given

pub shape_of-fills2 : goal.shape_of-fills2
shape_of-fills2 c = let after-fills2 : At-After-fills2-1 = search in after-fills2.fills2-1.given

pub shape_of-carry2 : goal.shape_of-carry2
shape_of-carry2 c = let after-carry2 : At-After-carry2-1 = search in after-carry2.carry2-1.given

pub returns : goal.returns
returns c = let after-resumed2 : At-After-resumed-2 = search in let else1 : At-Else-back = search in crossed-forth _ _ _ _ _ _ _ _ else1.if-back.false after-resumed2.resumed-2.ensures
