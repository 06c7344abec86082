-- `flow::moving::fair`: a gentle flow leaves the test of the parts alone; else both tests together are the rule of a liquid cell's body. Assumes nothing.
use mathlib.Core.Path.{sym, ◌∙◌, ap₂}
use mathlib.Core.Bool.{◌&&◌}
use Rattle.lattice.proofs.Bodies.{flow-x, flow-y, flow-z, body_is}
use Rattle.lattice.proofs.Tame.{steady-tame}
use Rattle.flow.proofs.Gentle.{body_kept}
use Rattle.flow.proofs.moving.fair.Lts as lts
use Rattle.flow.proofs.moving.fair.Reads as reads
use Rattle.flow.proofs.moving.fair.Tie as tie
use Rattle.flow.proofs.moving.fair.Goals as goal

abbrev At-After-gentle : Type 0
At-After-gentle = lts.After-gentle tie.the-claims reads.Pre reads.Post

abbrev At-Then-gentle : Type 0
At-Then-gentle = lts.Then1 tie.the-claims reads.Pre reads.Post

pub gentle-requires : goal.gentle-requires
gentle-requires c = let s : goal.Start = search in steady-tame s.args.v s.requires.1

pub returns-then-gentle : goal.returns-then-gentle
returns-then-gentle c =
    let after-gentle : At-After-gentle = search in let then1 : At-Then-gentle = search in let s : goal.Start = search in
    c.all_inside.ensures ∙ body_kept s.args.v s.args.f s.requires.2 s.requires.1 (sym after-gentle.gentle.ensures ∙ then1.if-gentle.true)

pub flow_of-requires : goal.flow_of-requires
flow_of-requires c = let s : goal.Start = search in s.requires.0

pub steady-requires : goal.steady-requires
steady-requires c =
    let s : goal.Start = search in
    let v = c.flow_of.result in
    let e = c.flow_of.ensures.1 in
    (flow-x s.args.f s.requires.0 v e 400000000 tt, flow-y s.args.f s.requires.0 v e 400000000 tt, flow-z s.args.f s.requires.0 v e 400000000 tt)

pub returns : goal.returns
returns c =
    let after-flow-of : goal.After-flow_of = search in let after-all-inside2 : goal.After-all_inside-2 = search in let start : goal.Start = search in let e = after-flow-of.flow_of.ensures in
    ap₂ ◌&&◌ after-all-inside2.all_inside-2.ensures c.steady.ensures ∙ body_is start.args.f after-flow-of.flow_of.result e.0 e.1
