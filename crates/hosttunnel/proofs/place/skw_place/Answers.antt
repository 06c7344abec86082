-- `hosttunnel::place::skw_place`: placing's answer, told as number, place and cell. Assumes nothing.
use mir.Syntax.{w64}
use mir.ValLaws.{to_z-of_z}
use Rattle.hosttunnel.proofs.Returned.{point-back}
use Rattle.hosttunnel.proofs.Told.{place-told}
use Rattle.hosttunnel.proofs.place.skw_place.Goals as goal

pub returns : goal.returns
returns c =
    let d = c in
    let a = d.args in
    let f = d.ranges in
    place-told (to_z-of_z w64 a.edge f.edge) (point-back a.ox a.oy a.oz f.ox f.oy f.oz) (point-back a.x a.y a.z f.x f.y f.z)
    d.place-a.ensures c.refusal_number.ensures c.refusal_place.ensures c.cell_number.ensures
