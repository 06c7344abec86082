-- `flumerecord::given::good_site` is the box's test 3, with no y. Assumes nothing.
use mathlib.Core.Bool.{Bool}
use mathlib.Core.Path.{◌≡◌, ◌∙◌}
use lib.IntN.{ℤ, pos}
use mir.Syntax.{w64}
use mir.Val.{SFits, to_z, of_z}
use mir.Facts.{to_z-of_z}
use Rattle.record.specs.Layout.{site_good}
use Rattle.flumerecord.specs.Layout.{flume_site_good}
use Rattle.flumerecord.proofs.given.good_site.Goals as goal

-- numbers that the machine held
held : (m : Bool) (p x z e u v : ℤ) → SFits w64 p → SFits w64 x → SFits w64 z → SFits w64 e → SFits w64 u → SFits w64 v
    → site_good (record { p = to_z w64 (of_z w64 p); gx = to_z w64 (of_z w64 x); gy = pos 0; gz = to_z w64 (of_z w64 z); turbulent = m }) (record { edge = to_z w64 (of_z w64 e); x = to_z w64 (of_z w64 u); y = pos 0; z = to_z w64 (of_z w64 v) })
    ≡ site_good (record { p = p; gx = x; gy = pos 0; gz = z; turbulent = m }) (record { edge = e; x = u; y = pos 0; z = v })
held m p x z e u v fp fx fz fe fu fv i =
    site_good (record { p = to_z-of_z {w = w64} fp i; gx = to_z-of_z {w = w64} fx i; gy = pos 0; gz = to_z-of_z {w = w64} fz i; turbulent = m })
    (record { edge = to_z-of_z {w = w64} fe i; x = to_z-of_z {w = w64} fu i; y = pos 0; z = to_z-of_z {w = w64} fv i })

pub returns : goal.returns
unfolding flume_site_good
returns c =
    let t = c.struct_told-2-1.given in
    let g = c.struct_told-1.given in
    let a = c.args in
    c.good_site.ensures
    ∙ held a.g.turbulent a.g.p a.g.gx a.g.gz a.t.edge a.t.x a.t.z
    (record { sfits = g.0.1 }) (record { sfits = g.1.0.1 }) (record { sfits = g.1.1.0.1 })
    (record { sfits = t.0.1 }) (record { sfits = t.1.0.1 }) (record { sfits = t.1.1.0.1 })
