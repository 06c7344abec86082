use Rattle.passes.proofs.Marking.{opened}
use Rattle.passes.proofs.marks.mark_open_by.Goals as goal

pub returns : goal.returns
returns c =
    opened c.args.flags.now c.args.marks.now c.args.off.now c.loop-c.marks c.args.low c.loop-c.c c.requires.1 c.loop-c.invariant c.loop-c-test.false
