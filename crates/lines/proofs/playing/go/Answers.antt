-- `lines::playing::go` tells a state, its step, and the state after it, whose slices kept their lengths. Assumes nothing.
use native.Mathlib.Omega.{arith}
use lib.IntN.{pos}
use lib.ListN.{get_or}
use Rattle.lines.proofs.Going.{went}
use Rattle.lines.proofs.playing.go.Goals as goal

pub slice_copy_out-counts : goal.slice_copy_out-counts
slice_copy_out-counts c = omega arith

pub counts-after-requires : goal.counts-after-requires
counts-after-requires c = omega arith

pub returns : goal.returns
returns c =
    went (get_or c.args.carry.now 0 (pos 0)) (record { sfits = omega arith }) (record { sfits = omega arith }) c.counts-before.ensures c.step-step.ensures c.counts-after.ensures
