-- `flumerun::running::run`: what is not admitted writes nothing; what is goes on to its end. Assumes nothing.
use Rattle.std.proofs.Common.{sym, ◌∙◌}
use Rattle.flumerun.proofs.Admitted.{run-stepping, not-admitted, admitted-went}
use Rattle.flumerun.proofs.running.run.Goals as goal

pub returns-in-Err : goal.returns-in-Err
returns-in-Err c = not-admitted _ _ _ _ _ _ _ (sym c.in-Err.is ∙ c.admitted-a.ensures)

pub going-requires : goal.going-requires
going-requires c = run-stepping _ _ _ _ _ _ (sym c.admitted-a.ensures ∙ c.in_default.is)

pub returns : goal.returns
returns c = admitted-went _ _ _ _ _ _ _ _ _ _ _ (sym c.in_default.is ∙ c.admitted-a.ensures) c.going.ensures
