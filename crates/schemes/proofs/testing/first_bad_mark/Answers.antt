use Rattle.std.proofs.Common.{sym, ◌∙◌, length, arith, below_more}
use Rattle.schemes.proofs.Passing.{mark-here, mark-found, mark-none}
use Rattle.schemes.proofs.testing.first_bad_mark.Goals as goal

pub returns-then-bad_mark : goal.returns-then-bad_mark
returns-then-bad_mark c =
    mark-found c.requires c.loop-c.c c.loop-c.invariant c.loop-c-test.true
    (sym (mark-here c.args.s c.args.map.now c.args.own.now c.loop-c.c c.loop-c-test.true) ∙ sym c.bad_mark.ensures ∙ c.if-bad_mark.true)

pub loop-c-preserved : goal.loop-c-preserved
loop-c-preserved c =
    below_more _ _ c.loop-c.invariant
    (sym (mark-here c.args.s c.args.map.now c.args.own.now c.loop-c.c c.loop-c-test.true) ∙ sym c.bad_mark.ensures ∙ c.if-bad_mark.false)

pub returns : goal.returns
returns c = mark-none c.requires (length c.args.map.now) (λ j h. c.loop-c.invariant j (omega arith)) (omega arith)
