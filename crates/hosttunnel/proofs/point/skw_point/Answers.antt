-- `hosttunnel::point::skw_point`: the point's answer, told as number, place and values. Assumes nothing.
use lib.Ieee.{of_bits}
use Rattle.hosttunnel.proofs.Points.{point-told}
use Rattle.hosttunnel.proofs.point.skw_point.Goals as goal

pub returns-in-Ok : goal.returns-in-Ok
returns-in-Ok c = point-told c.in-Ok.ensures

pub returns-in-Err : goal.returns-in-Err
unfolding of_bits
returns-in-Err c = point-told c.in-Err.ensures _ _ c.number.ensures c.place.ensures
