-- `solids::walls::centre`: a product of at most 257,000. Assumes nothing.
use native.Mathlib.Omega.{arith}
use mir.Syntax.{w64}
use mir.ValLaws.{to_z_pos}
use Rattle.solids.proofs.Heights.{centre-small}
use Rattle.solids.proofs.walls.centre.Goals as goal

pub overflow_mul-result-2 : goal.overflow_mul-result-2
overflow_mul-result-2 c = omega (arith, centre-small c.args.edge c.args.z c.requires.edge_bound c.requires.z_bound)

pub overflow_cast-result : goal.overflow_cast-result
overflow_cast-result c = record { sfits = omega (arith, centre-small c.args.edge c.args.z c.requires.edge_bound c.requires.z_bound) }

pub returns : goal.returns
returns c = to_z_pos w64 _ (omega (arith, centre-small c.args.edge c.args.z c.requires.edge_bound c.requires.z_bound))
