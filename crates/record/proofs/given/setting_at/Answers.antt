-- `record::given::setting_at` is the number itself in twice its width. Assumes nothing.
use mathlib.Core.Path.{◌≡◌, ◌∙◌}
use mir.Syntax.{w32, w64}
use mir.Val.{to_z, of_z}
use mir.ValLaws.{to_z-of_z}
use Rattle.record.proofs.given.setting_at.Goals as goal

pub returns : goal.returns
returns c =
    let x = c.i32_at.result in
    let w : to_z w32 (of_z w32 x) ≡ x = to_z-of_z w32 x (record { sfits = c.i32_at.type_inv }) in
    to_z-of_z w64 c.wide.result (record { sfits = c.wide.type_inv }) ∙ c.wide.ensures ∙ w ∙ c.i32_at.ensures
