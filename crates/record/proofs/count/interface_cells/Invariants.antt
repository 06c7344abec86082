-- `record::count::interface_cells` counts the flags passed. Assumes nothing.
use Rattle.std.proofs.Common.{◌≡◌}
use Rattle.grid.specs.State.{flag_of}
use Rattle.record.specs.Layout.{interfaces}
use Rattle.record.proofs.count.interface_cells.Given as goal

abbrev pub invariant-loop-flag : goal.invariant-loop-flag
invariant-loop-flag l = l.found ≡ interfaces l.flag-index (flag_of l.flags)
