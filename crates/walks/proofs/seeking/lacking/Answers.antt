use mathlib.Core.Path.{ap, ◌∙◌}
use mathlib.Core.Bool.{Bool, ◌&&◌, not}
use Prim.Native.Nat.{ℕ, ◌+◌}
use lib.Dec.{eqb}
use lib.ListN.{get_or}
use Rattle.whole.specs.laws.Search.{all_none, all_more}
use Rattle.walks.proofs.seeking.lacking.Goals as goal

pub loop-k-init : goal.loop-k-init
loop-k-init c = all_none _

pub loop-k-preserved : goal.loop-k-preserved
loop-k-preserved c =
    let f : ℕ → Bool = λ i. not (eqb (get_or c.args.flags.now (c.args.a + i) 0) c.args.kind) in
    ap (λ b. b && f c.loop-k.k) c.loop-k.invariant ∙ all_more _ f
