use borrow.Author.Tests.{eq-eqb}
use mathlib.Core.Path.{sym, ap, ◌∙◌}
use mathlib.Core.Bool.{not, false≢true}
use native.Mathlib.Omega.{arith}
use lib.Dec.{eqb}
use lib.ListN.{get_or}
use Rattle.grid.proofs.Ranges.{past-together}
use Rattle.walks.proofs.seeking.past_lacking.Goals as goal

pub loop-c-preserved : goal.loop-c-preserved
loop-c-preserved c =
    past-together c.args.n (λ j. not (eqb (get_or c.args.flags.now j 0) c.args.kind)) (λ j t e. false≢true (sym (ap not (eq-eqb _ _ e)) ∙ t)) c.loop-c.invariant (omega arith)
    (sym c.lacking.ensures ∙ c.if-not-lacking.false)
