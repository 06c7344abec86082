-- `record::number::u32_at` is the number of four bytes. Assumes nothing.
use mathlib.Core.Path.{sym, ◌∙◌}
use Rattle.record.proofs.Numbers.{four}
use Rattle.record.proofs.number.u32_at.Goals as goal

pub returns : goal.returns
returns c = c.word.ensures ∙ sym (four _ _ c.requires)
