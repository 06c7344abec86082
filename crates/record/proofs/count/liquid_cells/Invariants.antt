-- `record::count::liquid_cells` counts the flags passed. Assumes nothing.
use Rattle.std.proofs.Common.{◌≡◌}
use Rattle.grid.specs.State.{flag_of}
use Rattle.record.specs.Layout.{liquids}
use Rattle.record.proofs.count.liquid_cells.Given as goal

abbrev pub invariant-loop-flag : goal.invariant-loop-flag
invariant-loop-flag l = l.found ≡ liquids l.flag-index (flag_of l.flags)
