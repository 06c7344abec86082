-- `flumerecord::given::settings_in` reads p and gravity. Assumes nothing.
use mathlib.Core.Path.{◌∙◌}
use mir.Syntax.{w64}
use mir.ValLaws.{to_z-of_z}
use Rattle.flumerecord.specs.Reading.{flume_settings_in}
use Rattle.flumerecord.proofs.given.settings_in.Goals as goal

pub returns : goal.returns
unfolding flume_settings_in
returns c =
    rw (
      to_z-of_z w64 c.setting_at-p.result (record { sfits = c.setting_at-p.type_inv }) ∙ c.setting_at-p.ensures,
      to_z-of_z w64 c.setting_at-x.result (record { sfits = c.setting_at-x.type_inv }) ∙ c.setting_at-x.ensures,
      to_z-of_z w64 c.setting_at-z.result (record { sfits = c.setting_at-z.type_inv }) ∙ c.setting_at-z.ensures,
    )
