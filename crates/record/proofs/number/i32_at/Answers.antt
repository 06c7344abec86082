-- `record::number::i32_at` is the unsigned number at that place, read as signed. Assumes nothing.
use mathlib.Core.Path.{ap, ◌∙◌}
use mir.Syntax.{w32}
use mir.Val.{to_z}
use mir.ValLaws.{to_z-of_z}
use Rattle.record.proofs.number.i32_at.Goals as goal

pub returns : goal.returns
returns c = to_z-of_z w32 c.cast_signed.result (record { sfits = c.cast_signed.type_inv }) ∙ c.cast_signed.ensures ∙ ap (to_z w32) c.u32_at.ensures
