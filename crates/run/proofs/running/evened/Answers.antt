-- `run::running::evened`: the other set becomes a copy of the one that holds the state. Assumes nothing.
use mathlib.Core.Path.{refl}
use Rattle.run.proofs.Runs.{alike-back, alike-forth, evened-back, evened-forth}
use Rattle.run.proofs.running.evened.Lts as lts
use Rattle.run.proofs.running.evened.Reads as reads
use Rattle.run.proofs.running.evened.Tie as tie
use Rattle.run.proofs.running.evened.Goals as goal

abbrev At-Then-back : Type 0
At-Then-back = lts.Then1 tie.the-claims reads.Pre reads.Post

abbrev At-Start : Type 0
At-Start = lts.Start tie.the-claims reads.Pre reads.Post

abbrev At-Else-back : Type 0
At-Else-back = lts.Else1 tie.the-claims reads.Pre reads.Post

abbrev At-After-flags-1 : Type 0
At-After-flags-1 = lts.After-flags tie.the-claims reads.Pre reads.Post

abbrev At-After-parts-1 : Type 0
At-After-parts-1 = lts.After-parts tie.the-claims reads.Pre reads.Post

abbrev At-After-masses-1 : Type 0
At-After-masses-1 = lts.After-masses tie.the-claims reads.Pre reads.Post

abbrev At-After-fills-1 : Type 0
At-After-fills-1 = lts.After-fills tie.the-claims reads.Pre reads.Post

abbrev At-After-copied : Type 0
At-After-copied = lts.After-copied tie.the-claims reads.Pre reads.Post

abbrev At-After-flags2-1 : Type 0
At-After-flags2-1 = lts.After-flags2 tie.the-claims reads.Pre reads.Post

abbrev At-After-parts2-1 : Type 0
At-After-parts2-1 = lts.After-parts2 tie.the-claims reads.Pre reads.Post

abbrev At-After-masses2-1 : Type 0
At-After-masses2-1 = lts.After-masses2 tie.the-claims reads.Pre reads.Post

abbrev At-After-fills2-1 : Type 0
At-After-fills2-1 = lts.After-fills2 tie.the-claims reads.Pre reads.Post

abbrev At-After-copied-else-back : Type 0
At-After-copied-else-back = lts.After-copied2 tie.the-claims reads.Pre reads.Post

pub copied-requires : goal.copied-requires
copied-requires c = let then1 : At-Then-back = search in let start : At-Start = search in alike-back _ _ _ then1.if-back.true start.requires

pub copied-requires-else-back : goal.copied-requires-else-back
copied-requires-else-back c = let else1 : At-Else-back = search in let start : At-Start = search in alike-forth _ _ _ else1.if-back.false start.requires

pub shape_of-flags-then-back : goal.shape_of-flags-then-back
shape_of-flags-then-back c = let after-flags : At-After-flags-1 = search in after-flags.flags-1.given

pub shape_of-parts-then-back : goal.shape_of-parts-then-back
shape_of-parts-then-back c = let after-parts : At-After-parts-1 = search in after-parts.parts-1.given

pub shape_of-masses-then-back : goal.shape_of-masses-then-back
shape_of-masses-then-back c = let after-masses : At-After-masses-1 = search in after-masses.masses-1.given

pub shape_of-fills-then-back : goal.shape_of-fills-then-back
shape_of-fills-then-back c = let after-fills : At-After-fills-1 = search in after-fills.fills-1.given

pub shape_of-carry-then-back : goal.shape_of-carry-then-back
shape_of-carry-then-back c = c.carry-1.given

pub shape_of-flags2-then-back : goal.shape_of-flags2-then-back
shape_of-flags2-then-back c = refl

pub shape_of-parts2-then-back : goal.shape_of-parts2-then-back
shape_of-parts2-then-back c = refl

pub shape_of-masses2-then-back : goal.shape_of-masses2-then-back
shape_of-masses2-then-back c = refl

pub shape_of-fills2-then-back : goal.shape_of-fills2-then-back
shape_of-fills2-then-back c = refl

pub shape_of-carry2-then-back : goal.shape_of-carry2-then-back
shape_of-carry2-then-back c = refl

pub returns-then-back : goal.returns-then-back
returns-then-back c = let after-copied : At-After-copied = search in let then1 : At-Then-back = search in evened-back _ _ _ _ then1.if-back.true after-copied.copied.ensures

pub shape_of-flags-else-back : goal.shape_of-flags-else-back
shape_of-flags-else-back c = refl

pub shape_of-parts-else-back : goal.shape_of-parts-else-back
shape_of-parts-else-back c = refl

pub shape_of-masses-else-back : goal.shape_of-masses-else-back
shape_of-masses-else-back c = refl

pub shape_of-fills-else-back : goal.shape_of-fills-else-back
shape_of-fills-else-back c = refl

pub shape_of-carry-else-back : goal.shape_of-carry-else-back
shape_of-carry-else-back c = refl

pub shape_of-flags2-else-back : goal.shape_of-flags2-else-back
shape_of-flags2-else-back c = let after-flags2 : At-After-flags2-1 = search in after-flags2.flags2-1.given

pub shape_of-parts2-else-back : goal.shape_of-parts2-else-back
shape_of-parts2-else-back c = let after-parts2 : At-After-parts2-1 = search in after-parts2.parts2-1.given

pub shape_of-masses2-else-back : goal.shape_of-masses2-else-back
shape_of-masses2-else-back c = let after-masses2 : At-After-masses2-1 = search in after-masses2.masses2-1.given

pub shape_of-fills2-else-back : goal.shape_of-fills2-else-back
shape_of-fills2-else-back c = let after-fills2 : At-After-fills2-1 = search in after-fills2.fills2-1.given

pub shape_of-carry2-else-back : goal.shape_of-carry2-else-back
shape_of-carry2-else-back c = c.carry2-1.given

pub returns-else-back : goal.returns-else-back
returns-else-back c = let after-copied2 : At-After-copied-else-back = search in let else1 : At-Else-back = search in evened-forth _ _ _ _ else1.if-back.false after-copied2.copied-else-back.ensures
