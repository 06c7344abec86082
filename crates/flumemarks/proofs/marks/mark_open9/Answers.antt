use mathlib.Core.Path.{ap, ◌∙◌}
use native.Mathlib.Omega.{arith}
use lib.ListN.{get_or}
use Rattle.grid.specs.inner.Passes.{open_mark}
use Rattle.grid.proofs.Ranges.{ranged-more}
use Rattle.passes.proofs.Marking.{opened}
use Rattle.flumemarks.proofs.Alike.{open-same}
use Rattle.flumemarks.proofs.marks.mark_open9.Goals as goal

pub loop-c-preserved : goal.loop-c-preserved
loop-c-preserved c =
    let a = c.args in
    let l = c.loop-c in
    ranged-more 0 _ a.marks.now _ _ l.marks l.c _ l.invariant c.loop-c-test.true (omega arith)
    (c.open_mark.ensures ∙ ap (open_mark (get_or a.flags.now l.c 0)) c.beside9.ensures ∙ open-same a.flags.now a.off.now a.low l.c c.requires.1 l.invariant.from)

pub returns : goal.returns
returns c = opened c.args.flags.now c.args.marks.now c.args.off.now c.loop-c.marks c.args.low c.loop-c.c c.requires.2 c.loop-c.invariant c.loop-c-test.false
