use native.Mathlib.Omega.{arith}
use lib.IntN.{pos}
use Rattle.whole.specs.laws.Tab.{upto_all}
use Rattle.grid.proofs.cells.own.Goals as goal

pub returns : goal.returns
returns c = let l = c.loop-k.invariant in upto_all (pos 0) _ _ 19 l.0 (λ j h. l.1 j (omega arith))
