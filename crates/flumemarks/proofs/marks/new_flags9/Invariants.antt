-- `flumemarks::marks::new_flags9` is pass 3: each cell from the first inner one to the last gets its new flag; the others stay. Assumes nothing.
use Rattle.grid.specs.inner.Passes.{turned_at}
use Rattle.grid.proofs.Ranges.{Ranged}
use Rattle.flumemarks.proofs.marks.new_flags9.Given as goal

abbrev pub invariant-loop-c : goal.invariant-loop-c
invariant-loop-c l = Ranged 0 (turned_at l.flags l.marks l.off l.low) l.flags l.low l.end l.next l.c
