-- `grid::kinds::either_liquid`: a flag that is there does not depend on what stands for a missing one. Assumes nothing.
use mathlib.Core.Path.{ap, ap₂, ◌∙◌}
use mathlib.Core.Bool.{◌||◌}
use Rattle.grid.specs.State.{liquid}
use Rattle.grid.specs.inner.Passes.{either_liquid}
use Rattle.grid.proofs.Lists.{get_or-there}
use Rattle.grid.proofs.kinds.either_liquid.Lts as lts
use Rattle.grid.proofs.kinds.either_liquid.Reads as reads
use Rattle.grid.proofs.kinds.either_liquid.Tie as tie
use Rattle.grid.proofs.kinds.either_liquid.Goals as goal

abbrev At-Start : Type 0
At-Start = lts.Start tie.the-claims reads.Pre reads.Post

abbrev At-After-is_liquid : Type 0
At-After-is_liquid = lts.After-is_liquid tie.the-claims reads.Pre reads.Post

pub returns : goal.returns
unfolding either_liquid
returns c =
    let start : At-Start = search in
    let first : At-After-is_liquid = search in
    let a = start.args in
    ap₂ ◌||◌ (first.is_liquid.ensures ∙ ap liquid (get_or-there a.flags.now a.c 0 3 start.requires.0)) (c.is_liquid-2.ensures ∙ ap liquid (get_or-there a.flags2.now a.c 0 3 start.requires.1))
