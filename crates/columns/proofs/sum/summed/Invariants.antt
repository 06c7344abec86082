-- `columns::sum::summed`: the invariant is that both accumulators are the definitions' up to height z, and the sum at most 65,536 a cell.
-- Assumes nothing.
use Rattle.std.proofs.Common.{◌≡◌, ◌*◌, ◌≤◌}
use Rattle.whole.specs.Fold.{all, total}
use Rattle.tunnel.specs.Depth.{is_wall, open_fill}
use Rattle.columns.proofs.sum.summed.Given as goal

abbrev pub invariant-loop-z : goal.invariant-loop-z
invariant-loop-z l = record {
  walls : l.solid ≡ all l.z (is_wall l.s l.flags l.x l.y);
  adds : l.sum ≡ total l.z (open_fill l.s l.flags l.fills l.x l.y);
  few : l.sum ≤ 65536 * l.z;
}
