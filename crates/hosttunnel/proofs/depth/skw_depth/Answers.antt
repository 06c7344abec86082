-- `hosttunnel::depth::skw_depth`: the depth's answer, told as number, place, kind and value. Assumes nothing.
use Rattle.hosttunnel.proofs.Depths.{depth-told}
use Rattle.hosttunnel.proofs.depth.skw_depth.Goals as goal

pub returns : goal.returns
returns c =
    depth-told c.column_depth-a.ensures c.depth_number.ensures c.depth_place.ensures c.depth_kind.ensures c.depth_value.ensures
