-- `counts::counting::cells_with` counts the flags passed. Assumes nothing.
use mathlib.Core.Path.{◌≡◌}
use Rattle.counts.proofs.Addends.{kind_in}
use Rattle.counts.proofs.counting.cells_with.Given as goal

abbrev pub invariant-loop-flag : goal.invariant-loop-flag
invariant-loop-flag l = l.found ≡ kind_in l.flags l.wanted l.flag-index
