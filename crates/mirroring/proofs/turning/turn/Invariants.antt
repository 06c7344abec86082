-- `mirroring::turning::turn`: cell after cell; the cells passed are made, and in the end the second set is the reflected one, totals aside. Assumes nothing.
use mathlib.Core.List.{[]}
use Rattle.grid.specs.Grid.{cells_of}
use Rattle.grid.specs.State.{lent}
use Rattle.mirroring.proofs.Made.{Made}
use Rattle.mirroring.proofs.turning.turn.Given as goal

abbrev pub invariant-loop-c : goal.invariant-loop-c
invariant-loop-c l =
    Made l.s l.axis l.dirs l.q (lent l.flags l.parts l.masses l.fills []) (cells_of l.s) (lent l.flags2 l.parts2 l.masses2 l.fills2 []) l.c
