-- `depths::depth::millimetres`: the product fits, and so does its share. Assumes nothing.
use mathlib.Core.Path.{◌∙◌}
use Prim.Native.Nat.{◌*◌, ◌/◌, ◌≤◌}
use native.Mathlib.Nat.{mul-le-mul_left}
use native.Mathlib.Omega.{arith}
use mir.Syntax.{w64}
use mir.ValLaws.{to_z_pos}
use Rattle.depths.proofs.depth.millimetres.Lts as lts
use Rattle.depths.proofs.depth.millimetres.Reads as reads
use Rattle.depths.proofs.depth.millimetres.Tie as tie
use Rattle.depths.proofs.depth.millimetres.Goals as goal

abbrev At-Else-solid : Type 0
At-Else-solid = lts.Else1 reads.Pre reads.Post tie.handed_clauses

-- the product stays below 2^34
small : (c : At-Else-solid) → c.args.sum * c.args.edge ≤ 16777216000
small c = let a = c.args in omega (arith, c.requires.sum_bound, mul-le-mul_left a.sum c.requires.edge_bound)

pub returns-then-solid : goal.returns-then-solid
returns-then-solid c = simp c.if-solid.true

pub overflow_mul-result : goal.overflow_mul-result
overflow_mul-result c = record { fits = omega (arith, small c) }

pub overflow_cast-result-2 : goal.overflow_cast-result-2
overflow_cast-result-2 c = record { sfits = omega (arith, small c) }

pub returns : goal.returns
returns c = to_z_pos w64 (c.args.sum * c.args.edge / 65536) (omega (arith, small c)) ∙ simp c.if-solid.false
