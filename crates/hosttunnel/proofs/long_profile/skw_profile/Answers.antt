-- `hosttunnel::long_profile::skw_profile`: the profile's answer, told as number, place and values; the lines as they stand. Assumes nothing.
use Rattle.hosttunnel.proofs.Returned.{frame_back}
use Rattle.hosttunnel.proofs.Told.{profile-told}
use Rattle.hosttunnel.proofs.long_profile.skw_profile.Goals as goal

pub returns : goal.returns
returns c =
    let d = c in
    let s = d in
    let a = s.args in
    let f = s.ranges in
    profile-told (frame_back a.nx a.ny a.nz a.edge a.ox a.oy a.oz f.edge f.ox f.oy f.oz)
    d.profile-a.ensures c.number.ensures c.place.ensures c.wet.ensures c.deepest.ensures
