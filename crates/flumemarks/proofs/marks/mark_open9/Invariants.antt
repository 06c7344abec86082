-- `flumemarks::marks::mark_open9` is pass 0: each cell from the first inner one to the last gets its mark, the others keep theirs. Assumes nothing.
use Prim.Native.Nat.{◌-◌}
use lib.ListN.{get_or}
use Rattle.grid.specs.inner.Passes.{beside_at, open_mark}
use Rattle.grid.proofs.Ranges.{Ranged}
use Rattle.flumemarks.proofs.marks.mark_open9.Given as goal

abbrev pub invariant-loop-c : goal.invariant-loop-c
invariant-loop-c l = Ranged 0 (λ c. open_mark (get_or l.flags c 0) (beside_at l.flags l.off (c - l.low) 3)) l.initial.marks l.low l.end l.marks l.c
