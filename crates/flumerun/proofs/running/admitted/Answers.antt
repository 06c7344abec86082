-- `flumerun::running::admitted`: the number of steps first, then tests 1 to 6. Assumes nothing.
use mathlib.Core.Path.{◌∙◌}
use native.Mathlib.Omega.{arith}
use Rattle.flumerun.proofs.Admitted.{refuses-steps, then-entered}
use Rattle.flumerun.proofs.running.admitted.Goals as goal

pub returns-then-steps-gt1000 : goal.returns-then-steps-gt1000
returns-then-steps-gt1000 c = refuses-steps _ _ _ _ _ _ c.if-steps-gt1000.true

pub returns : goal.returns
returns c = c.entered.ensures ∙ then-entered _ _ _ _ _ _ (omega arith)
