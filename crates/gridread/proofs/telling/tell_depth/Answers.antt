-- `gridread::telling::tell_depth`: a depth is a whole number of its parts. Assumes nothing.
use Rattle.gridread.proofs.Few.{depth-parts}
use Rattle.gridread.proofs.telling.tell_depth.Goals as goal

pub shares-requires : goal.shares-requires
shares-requires g c = depth-parts _ _ _ _ _ c.in-Ok-Deep.ensures c.in-Ok-Deep.field-0-is
