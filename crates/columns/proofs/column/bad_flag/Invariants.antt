-- `columns::column::bad_flag`: the invariant is that no flag below height z is bad. Assumes nothing.
use Rattle.std.proofs.Common.{◌≡◌, false, ℕ, ◌<◌}
use Rattle.tunnel.specs.Depth.{flag_bad}
use Rattle.columns.proofs.column.bad_flag.Given as goal

abbrev pub invariant-loop-z : goal.invariant-loop-z
invariant-loop-z l = (j : ℕ) → j < l.z → flag_bad l.s l.flags l.x l.y j ≡ false
