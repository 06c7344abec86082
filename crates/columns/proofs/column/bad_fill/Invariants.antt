-- `columns::column::bad_fill`: the invariant is that no fill below height z is bad. Assumes nothing.
use Rattle.std.proofs.Common.{◌≡◌, false, ℕ, ◌<◌}
use Rattle.tunnel.specs.Depth.{fill_bad}
use Rattle.columns.proofs.column.bad_fill.Given as goal

abbrev pub invariant-loop-z : goal.invariant-loop-z
invariant-loop-z l = (j : ℕ) → j < l.z → fill_bad l.s l.fills l.x l.y j ≡ false
