use Rattle.std.proofs.Common.{◌+◌, refl, arith}
use Rattle.whole.specs.Fold.{count}
use Rattle.grid.specs.State.{flag_of}
use Rattle.record.specs.Layout.{interfaces}
use Rattle.record.proofs.Gathered.{interfaces-more, interfaces-most}
use Rattle.record.proofs.count.interface_cells.Goals as goal

pub loop-flag-init : goal.loop-flag-init
unfolding count interfaces
loop-flag-init c = refl

pub overflow_add-found : goal.overflow_add-found
overflow_add-found c =
    omega (arith, interfaces-more c.args.flags.now c.loop-flag.flag-index c.loop-flag-test.true, interfaces-most (c.loop-flag.flag-index + 1) (flag_of c.args.flags.now))

pub loop-flag-preserved : goal.loop-flag-preserved
loop-flag-preserved c = omega (arith, interfaces-more c.args.flags.now c.loop-flag.flag-index c.loop-flag-test.true)
