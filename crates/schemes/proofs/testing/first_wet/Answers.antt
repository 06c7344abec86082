use Rattle.std.proofs.Common.{sym, ◌∙◌, length, arith, below_more}
use Rattle.schemes.specs.Scheme.{wet_wall}
use Rattle.schemes.proofs.Passing.{found, none_found, wet-here}
use Rattle.schemes.proofs.testing.first_wet.Goals as goal

pub returns-then-wet : goal.returns-then-wet
returns-then-wet c = let m = c.args.map.now in
    found (length m) (wet_wall m c.args.own.now) c.loop-c.c c.loop-c.invariant c.loop-c-test.true
    (sym (wet-here m c.args.own.now c.loop-c.c c.loop-c-test.true) ∙ sym c.wet.ensures ∙ c.if-wet.true)

pub loop-c-preserved : goal.loop-c-preserved
loop-c-preserved c =
    below_more _ _ c.loop-c.invariant (sym (wet-here c.args.map.now c.args.own.now c.loop-c.c c.loop-c-test.true) ∙ sym c.wet.ensures ∙ c.if-wet.false)

pub returns : goal.returns
returns c = let m = c.args.map.now in
    none_found (length m) (wet_wall m c.args.own.now) (length m) (λ j h. c.loop-c.invariant j (omega arith)) (omega arith)
