-- `runs::running::admitted`: 9, then the tests of a step. Assumes nothing.
use mathlib.Core.Path.{◌∙◌}
use Rattle.grid.specs.State.{lent}
use Rattle.index.specs.Index.{index}
use Rattle.index.specs.Held.{Held, held}
use Rattle.runs.proofs.Outcomes.{refuses-steps, then-entered}
use Rattle.runs.proofs.running.admitted.Lts as lts
use Rattle.runs.proofs.running.admitted.Reads as reads
use Rattle.runs.proofs.running.admitted.Tie as tie
use Rattle.runs.proofs.running.admitted.Goals as goal

abbrev At-Start : Type 0
At-Start = lts.Start tie.the-claims reads.Pre reads.Post

abbrev At-Else-steps-gt1000 : Type 0
At-Else-steps-gt1000 = lts.Else1 tie.the-claims reads.Pre reads.Post

abbrev first : At-Start → Held
first w = held (lent w.args.flags.now w.args.parts.now w.args.masses.now w.args.fills.now w.args.carry.now) (index w.args.words.now w.args.count.now)

abbrev second : At-Start → Held
second w = held (lent w.args.flags2.now w.args.parts2.now w.args.masses2.now w.args.fills2.now w.args.carry2.now) (index w.args.words2.now w.args.count2.now)

pub returns-then-steps-gt1000 : goal.returns-then-steps-gt1000
returns-then-steps-gt1000 c =
    let v : At-Start = search in
    refuses-steps v.args.s v.args.g (first v) (second v) v.args.marks.now v.args.steps c.if-steps-gt1000.true

pub returns : goal.returns
returns c =
    let else1 : At-Else-steps-gt1000 = search in let v : At-Start = search in
    c.entered.ensures ∙ then-entered v.args.s v.args.g (first v) (second v) v.args.marks.now v.args.steps else1.if-steps-gt1000.false
