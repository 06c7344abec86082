use Rattle.std.proofs.Common.{ℕ, ap, ◌∙◌, replicate, arith}
use Rattle.pools.proofs.Scanning.{flooded-first, finished}
use Rattle.pools.proofs.flood.flood.Goals as goal

pub loop-c-init : goal.loop-c-init
loop-c-init c = flooded-first (c.clear.ensures ∙ ap (λ (n : ℕ). replicate n 0) c.requires.1) c.requires.2

pub returns : goal.returns
returns c = finished c.requires.0 c.loop-c.invariant (omega (arith, c.requires.0.count)) c.requires.2
