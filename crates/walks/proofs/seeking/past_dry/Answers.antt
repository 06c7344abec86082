use borrow.Author.Tests.{not-true}
use mathlib.Core.Path.{sym, ◌∙◌}
use mathlib.Core.Bool.{not}
use native.Mathlib.Omega.{arith}
use Rattle.grid.specs.inner.Passes.{either_liquid}
use Rattle.grid.proofs.Ranges.{past-together}
use Rattle.walks.proofs.seeking.past_dry.Goals as goal

pub loop-c-preserved : goal.loop-c-preserved
loop-c-preserved c =
    past-together c.args.n (λ j. not (either_liquid c.args.flags.now c.args.flags2.now j)) (λ j. not-true _) c.loop-c.invariant (omega arith)
    (sym c.dry.ensures ∙ c.if-not-dry.false)
