-- `tunnel::cell::number`: the number of a cell inside good sides fits, as does all that leads to it. Assumes nothing.
use native.Mathlib.Omega.{arith}
use Rattle.tunnel.proofs.Cells.{small}
use Rattle.tunnel.proofs.cell.number.Goals as goal

pub overflow_mul-result : goal.overflow_mul-result
overflow_mul-result c = record { fits = omega (arith, (small c.requires).low) }

pub overflow_add-result : goal.overflow_add-result
overflow_add-result c = record { fits = omega (arith, (small c.requires).sum) }

pub overflow_mul-result-2 : goal.overflow_mul-result-2
overflow_mul-result-2 c = record { fits = omega (arith, (small c.requires).mid) }

pub overflow_add-result-2 : goal.overflow_add-result-2
overflow_add-result-2 c = record { fits = omega (arith, (small c.requires).cell, (small c.requires).all) }
