-- `run::running::going`: turn after turn, and `back` tells which set holds the state reached. What an accepted turn leaves is ready again, so that no
-- test is made twice. Every slice keeps its length, since both sets are sized at the start and at each turn. Assumes nothing.
use Rattle.grid.specs.State.{lent}
use Rattle.run.proofs.Runs.{Dry, Going}
use Rattle.run.proofs.running.going.Given as goal

abbrev pub invariant-loop-k : goal.invariant-loop-k
invariant-loop-k l =
    Dry l.back (lent l.flags l.parts l.masses l.fills l.carry) (lent l.flags2 l.parts2 l.masses2 l.fills2 l.carry2) × Going l.steps l.s l.g (lent l.initial.flags l.initial.parts l.initial.masses l.initial.fills l.initial.carry) l.initial.marks l.k l.back (lent l.flags l.parts l.masses l.fills l.carry) (lent l.flags2 l.parts2 l.masses2 l.fills2 l.carry2) l.marks
