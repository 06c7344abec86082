-- `record::given::site_in` reads the edge and the origin. Assumes nothing.
use mathlib.Core.Path.{◌∙◌}
use mir.Syntax.{w64}
use mir.ValLaws.{to_z-of_z}
use Rattle.record.specs.Reading.{site_in}
use Rattle.record.proofs.given.site_in.Goals as goal

pub returns : goal.returns
unfolding site_in
returns c =
    rw (
      to_z-of_z w64 c.setting_at-edge.result (record { sfits = c.setting_at-edge.type_inv }) ∙ c.setting_at-edge.ensures,
      to_z-of_z w64 c.i64_at-x.result (record { sfits = c.i64_at-x.type_inv }) ∙ c.i64_at-x.ensures,
      to_z-of_z w64 c.i64_at-y.result (record { sfits = c.i64_at-y.type_inv }) ∙ c.i64_at-y.ensures,
      to_z-of_z w64 c.i64_at-z.result (record { sfits = c.i64_at-z.type_inv }) ∙ c.i64_at-z.ensures,
    )
