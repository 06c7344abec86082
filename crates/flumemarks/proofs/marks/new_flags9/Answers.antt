use mathlib.Core.Path.{ap₂, ◌∙◌}
use mathlib.Core.Bool.{Bool}
use native.Mathlib.Omega.{arith}
use lib.Dec.{eqb}
use lib.ListN.{get_or}
use Rattle.grid.proofs.Ranges.{ranged-more}
use Rattle.grid.specs.Step.{flag_after}
use Rattle.conversion.proofs.Marking.{turned}
use Rattle.flumemarks.proofs.Alike.{turned_same}
use Rattle.flumemarks.proofs.marks.new_flags9.Goals as goal

pub loop-c-preserved : goal.loop-c-preserved
loop-c-preserved c =
    let f = c.args.flags.now in
    let m = c.args.marks.now in
    let l = c.loop-c in
    ranged-more 0 _ f _ _ l.next l.c _ l.invariant c.loop-c-test.true (omega arith)
    (c.kind_after.ensures ∙ ap₂ (λ (x y : Bool). flag_after (get_or f l.c 0) x (eqb (get_or m l.c 0) 1) (eqb (get_or m l.c 0) 2) y) c.beside9.ensures c.beside9-in-loop-c.ensures
    ∙ turned_same f m c.args.off.now c.args.low l.c c.requires.1 l.invariant.from (c.requires.0.only l.c (omega arith)))

pub returns : goal.returns
returns c = turned c.args.flags.now c.args.marks.now c.args.off.now c.loop-c.next c.args.low c.loop-c.c c.loop-c.invariant c.loop-c-test.false
