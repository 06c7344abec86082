-- `flow::streaming::streamed`: a fluid cell has no empty neighbour, and any other liquid cell goes by whatever lies beside it. Assumes nothing.
use mathlib.Core.Path.{◌∙◌, sym}
use Rattle.grid.proofs.Lists.{get_or-there}
use Rattle.flow.proofs.streaming.streamed.Lts as lts
use Rattle.flow.proofs.streaming.streamed.Reads as reads
use Rattle.flow.proofs.streaming.streamed.Tie as tie
use Rattle.flow.proofs.streaming.streamed.Goals as goal

abbrev At-Start : Type 0
At-Start = lts.Start tie.the-claims reads.Pre reads.Post

abbrev At-Then-flags-c-eq2 : Type 0
At-Then-flags-c-eq2 = lts.Then1 tie.the-claims reads.Pre reads.Post

pub bounds-flags-c : goal.bounds-flags-c
bounds-flags-c c = let s : At-Start = search in s.requires.2.is-cell

pub reflected-requires : goal.reflected-requires
reflected-requires c =
    let s : At-Start = search in let then1 : At-Then-flags-c-eq2 = search in
    (s.requires.0, s.requires.2, sym (get_or-there s.args.flags.now s.args.c 0 3 s.requires.2.is-cell) ∙ then1.if-flags-c-eq2.true, s.requires.4)

pub returns-then-flags-c-eq2 : goal.returns-then-flags-c-eq2
returns-then-flags-c-eq2 c g = let s : At-Start = search in c.reflected.ensures s.args.fills.now g

pub rebuilt-requires : goal.rebuilt-requires
rebuilt-requires c = let s : At-Start = search in (s.requires.0, s.requires.1, s.requires.2, s.requires.3)
