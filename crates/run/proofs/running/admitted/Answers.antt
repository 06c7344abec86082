-- `run::running::admitted`: the number of steps first, then tests 1 to 6. Assumes nothing.
use mathlib.Core.Path.{◌∙◌}
use Rattle.run.proofs.Runs.{refuses-steps, then-entered}
use Rattle.run.proofs.running.admitted.Lts as lts
use Rattle.run.proofs.running.admitted.Reads as reads
use Rattle.run.proofs.running.admitted.Tie as tie
use Rattle.run.proofs.running.admitted.Goals as goal

abbrev At-Else-steps-gt1000 : Type 0
At-Else-steps-gt1000 = lts.Else1 tie.the-claims reads.Pre reads.Post

pub returns-then-steps-gt1000 : goal.returns-then-steps-gt1000
returns-then-steps-gt1000 c = refuses-steps _ _ _ _ _ _ c.if-steps-gt1000.true

pub returns : goal.returns
returns c = let else1 : At-Else-steps-gt1000 = search in c.entered.ensures ∙ then-entered _ _ _ _ _ _ else1.if-steps-gt1000.false
