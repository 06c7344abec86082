-- `record::number::i64_at` is the unsigned number at that place, read as signed. Assumes nothing.
use mathlib.Core.Path.{ap, ◌∙◌}
use mir.Syntax.{w64}
use mir.Val.{to_z}
use mir.ValLaws.{to_z-of_z}
use Rattle.record.proofs.number.i64_at.Goals as goal

pub returns : goal.returns
returns c = to_z-of_z w64 c.signed_long.result (record { sfits = c.signed_long.type_inv }) ∙ c.signed_long.ensures ∙ ap (to_z w64) c.u64_at.ensures
