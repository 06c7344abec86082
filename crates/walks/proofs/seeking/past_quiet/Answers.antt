use borrow.Author.Tests.{eqb-true}
use mathlib.Core.Path.{sym, ◌∙◌}
use native.Mathlib.Omega.{arith}
use lib.Dec.{eqb}
use lib.ListN.{get_or}
use Rattle.grid.proofs.Ranges.{past-together}
use Rattle.walks.proofs.seeking.past_quiet.Goals as goal

pub loop-c-preserved : goal.loop-c-preserved
loop-c-preserved c =
    past-together 32 (λ j. eqb (get_or c.args.marks.now j 0) 0) (λ j. eqb-true _ _) c.loop-c.invariant (omega arith)
    (sym c.quiet.ensures ∙ c.if-not-quiet.false)
