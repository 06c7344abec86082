use native.Mathlib.Omega.{arith}
use Rattle.grid.proofs.Open.{none_inside}
use Rattle.checks.proofs.fluid.any_open.Goals as goal

pub returns : goal.returns
returns c e = none_inside c.args.flags.now c.args.off.now c.args.low c.requires (λ j h l. c.loop-c.invariant e j (omega arith) l)
