-- `lattice::rules::fair_parts`: both tests together are the rule of a liquid cell's body. Assumes nothing.
use mathlib.Core.Path.{◌∙◌, ap₂}
use mathlib.Core.Bool.{◌&&◌}
use Rattle.lattice.proofs.Bodies.{flow-x, flow-y, flow-z, body_is}
use Rattle.lattice.proofs.rules.fair_parts.Goals as goal

pub steady-requires : goal.steady-requires
steady-requires c =
    let s = c.before.before in
    let v = c.flow_of.result in
    let e = c.flow_of.ensures.1 in
    (flow-x s.args.f s.requires v e 400000000 tt, flow-y s.args.f s.requires v e 400000000 tt, flow-z s.args.f s.requires v e 400000000 tt)

pub returns : goal.returns
returns c =
    let e = c.flow_of.ensures in
    ap₂ ◌&&◌ c.all_inside.ensures c.steady.ensures ∙ body_is c.args.f c.flow_of.result e.0 e.1
