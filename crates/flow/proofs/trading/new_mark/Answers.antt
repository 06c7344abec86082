-- `flow::trading::new_mark`: lattice's marks for an interface cell, 0 for any other. Assumes nothing.
use mathlib.Core.Path.{sym, ◌∙◌, ap₂}
use mathlib.Core.Bool.{cond}
use lib.IntN.{ℤ}
use mir.Syntax.{w32}
use mir.Facts.{to_z-of_z}
use Rattle.whole.specs.laws.Machine.{machine, any, same, within_by}
use Rattle.lattice.specs.Cell.{over, under}
use Rattle.flow.specs.inner.Trade.{mark_for}
use Rattle.arrivals.proofs.Held.{held64}
use Rattle.arrivals.proofs.Trades.{by-other}
use Rattle.flow.proofs.trading.new_mark.Lts as lts
use Rattle.flow.proofs.trading.new_mark.Reads as reads
use Rattle.flow.proofs.trading.new_mark.Tie as tie
use Rattle.flow.proofs.trading.new_mark.Goals as goal

abbrev At-After-wide : Type 0
At-After-wide = lts.After-wide tie.the-claims reads.Pre reads.Post

abbrev At-Start : Type 0
At-Start = lts.Start tie.the-claims reads.Pre reads.Post

abbrev At-Then-f-eq1 : Type 0
At-Then-f-eq1 = lts.Then1 tie.the-claims reads.Pre reads.Post

pub mark_of-requires : goal.mark_of-requires
mark_of-requires c =
    let after-wide : At-After-wide = search in let s : At-Start = search in
    let a = same after-wide.wide.ensures (any w32 s.args.m s.ranges.m.sfits) in
    let b = same c.wide-then-f-eq1.ensures (any w32 s.args.rho s.ranges.rho.sfits) in
    (within_by (search machine depth 20) tt, within_by (search machine depth 20) tt)

pub returns-then-f-eq1 : goal.returns-then-f-eq1
unfolding mark_for
returns-then-f-eq1 c =
    let after-wide2 : goal.After-wide-then-f-eq1 = search in let after-wide : At-After-wide = search in let then1 : At-Then-f-eq1 = search in let s : At-Start = search in
    rw then1.if-f-eq1.true
    (c.mark_of.ensures
    ∙ ap₂ (λ (x y : ℤ). cond (over x y) 1 (cond (under x y) 2 0))
    (held64 after-wide.wide.result after-wide.wide.type_inv ∙ after-wide.wide.ensures ∙ to_z-of_z s.ranges.m)
    (held64 after-wide2.wide-then-f-eq1.result after-wide2.wide-then-f-eq1.type_inv ∙ after-wide2.wide-then-f-eq1.ensures ∙ to_z-of_z s.ranges.rho))

pub returns : goal.returns
unfolding mark_for
returns c =
    let start : At-Start = search in let a = start.args in
    sym (by-other a.f 0 (cond (over a.m a.rho) 1 (cond (under a.m a.rho) 2 0)) c.if-f-eq1.false)
