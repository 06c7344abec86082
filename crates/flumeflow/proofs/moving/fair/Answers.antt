-- `flumeflow::moving::fair`: both tests together are the rule of a liquid cell's body, whose density is known. Assumes nothing.
use mathlib.Core.Path.{sym, ap, ap₂, ◌∙◌, subst}
use mathlib.Core.Bool.{◌&&◌}
use mir.Facts.{to_z-of_z}
use Rattle.whole.specs.laws.Machine.{Within}
use Rattle.lattice.specs.declared.Flow.{Flow}
use Rattle.lattice.specs.inner.Held.{vec}
use Rattle.lattice.proofs.Bodies.{flow-x, flow-y, flow-z, body_is}
use Rattle.flumeflow.proofs.moving.fair.Lts as lts
use Rattle.flumeflow.proofs.moving.fair.Reads as reads
use Rattle.flumeflow.proofs.moving.fair.Tie as tie
use Rattle.flumeflow.proofs.moving.fair.Goals as goal

abbrev At-After-at_density : Type 0
At-After-at_density = lts.After-at_density tie.the-claims reads.Pre reads.Post

abbrev At-After-flow_of : Type 0
At-After-flow_of = lts.After-flow_of tie.the-claims reads.Pre reads.Post

abbrev At-Start : Type 0
At-Start = lts.Start tie.the-claims reads.Pre reads.Post

abbrev At-After-all_inside : Type 0
At-After-all_inside = lts.After-all_inside tie.the-claims reads.Pre reads.Post

pub steady-requires : goal.steady-requires
steady-requires c =
    let after-flow-of : At-After-flow_of = search in let s : At-Start = search in
    let v = after-flow-of.flow_of.result in
    let e = after-flow-of.flow_of.ensures.1 in
    subst (λ (w : Flow). Within w.x 400000000 × Within w.y 400000000 × Within w.z 400000000) (sym c.at_density.ensures)
    (flow-x s.args.f s.requires.0 v e 400000000 tt, flow-y s.args.f s.requires.0 v e 400000000 tt, flow-z s.args.f s.requires.0 v e 400000000 tt)

pub returns : goal.returns
returns c =
    let after-at-density : At-After-at_density = search in let after-flow-of : At-After-flow_of = search in let after-all-inside : At-After-all_inside = search in let s : At-Start = search in
    let d = after-at-density.at_density.ensures in
    ap₂ ◌&&◌ after-all-inside.all_inside.ensures c.steady.ensures
    ∙ body_is s.args.f after-at-density.at_density.result (ap (λ (w : Flow). w.rho) d ∙ to_z-of_z s.ranges.rho ∙ sym s.requires.1) (ap vec d ∙ after-flow-of.flow_of.ensures.1)
