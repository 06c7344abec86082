-- `profile::points::placed`: placing, of the point that stands there. Assumes nothing.
use mathlib.Core.Path.{ap, ◌∙◌}
use mir.Syntax.{w64}
use mir.ValLaws.{to_z-of_z}
use Rattle.tunnel.specs.declared.Point.{Point}
use Rattle.tunnel.specs.Place.{placing_of}
use Rattle.profile.specs.Profile.{placed_at}
use Rattle.profile.proofs.points.placed.Goals as goal

pub returns : goal.returns
unfolding placed_at
returns c =
    let a = c.args in
    let e = to_z-of_z w64 a.f.edge (record { sfits = c.struct_told-1.given.1.0.1 }) in
    rw e at c.place.ensures ∙ ap (λ (p : Point). placing_of a.f.sides a.f.edge a.f.origin p) c.point_at.ensures
