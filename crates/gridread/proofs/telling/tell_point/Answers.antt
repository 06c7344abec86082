-- `gridread::telling::tell_point`: every figure is a whole number of its parts. Assumes nothing.
use Rattle.gridread.proofs.Few.{point-parts}
use Rattle.gridread.proofs.telling.tell_point.Goals as goal

pub halves-requires : goal.halves-requires
halves-requires g c = (point-parts _ _ _ c.in-Ok.ensures).x

pub halves-requires-in-Ok : goal.halves-requires-in-Ok
halves-requires-in-Ok g c = (point-parts _ _ _ c.in-Ok.ensures).y

pub halves-requires-in-Ok-2 : goal.halves-requires-in-Ok-2
halves-requires-in-Ok-2 g c = (point-parts _ _ _ c.in-Ok.ensures).z

pub shares-requires : goal.shares-requires
shares-requires g c = (point-parts _ _ _ c.in-Ok.ensures).fill
