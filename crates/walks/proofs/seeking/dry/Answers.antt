use mathlib.Core.Path.{ap₂, ◌∙◌}
use mathlib.Core.Bool.{◌&&◌, not}
use Prim.Native.Nat.{◌+◌}
use Rattle.whole.specs.laws.Search.{all_none, all_more}
use Rattle.grid.specs.inner.Passes.{either_liquid}
use Rattle.walks.proofs.seeking.dry.Goals as goal

pub loop-k-init : goal.loop-k-init
loop-k-init c = all_none _

pub loop-k-preserved : goal.loop-k-preserved
loop-k-preserved c =
    ap₂ (λ b e. b && not e) c.loop-k.invariant c.either_liquid.ensures ∙ all_more _ (λ i. not (either_liquid c.args.flags.now c.args.flags2.now (c.args.a + i)))
