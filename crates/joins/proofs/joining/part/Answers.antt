-- `joins::joining::part`: the outcome's definition, whatever is lent. Assumes nothing.
use Rattle.std.proofs.Common.{sym, ◌∙◌}
use Rattle.grid.proofs.Handed.{handed-on}
use Rattle.schemes.proofs.Answers.{part-refused, part-sizes, part-done}
use Rattle.joins.proofs.joining.part.Goals as goal

pub returns-in_err-divisible : goal.returns-in_err-divisible
returns-in_err-divisible c = rw (handed-on c.from_residual.result c.from_residual.ensures.1) (part-refused _ _ _ c.in_err-divisible.ensures)

pub split-requires : goal.split-requires
split-requires c = let z = part-sizes _ _ _ (sym c.in_ok-divisible.ensures) in z.1 ∙ sym z.0

pub returns : goal.returns
returns c = part-done _ _ _ (sym c.in_ok-divisible.ensures) c.split.ensures
