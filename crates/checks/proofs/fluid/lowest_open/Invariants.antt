-- `checks::fluid::lowest_open` is test 5's place: no cell passed is a fluid cell beside an empty one, and the one answered is. The loops look by offsets; a
-- fluid cell has all its neighbours, so these lead to cells. Assumes nothing.
use mathlib.Core.Path.{◌≡◌}
use mathlib.Core.Bool.{false}
use Prim.Native.Nat.{ℕ, suc, ◌+◌, ◌<◌}
use lib.Dec.{eqb}
use lib.ListN.{get_or}
use Rattle.grid.specs.inner.Passes.{open_at}
use Rattle.checks.proofs.fluid.lowest_open.Given as goal

abbrev pub invariant-loop-c : goal.invariant-loop-c
invariant-loop-c l = (j : ℕ) → j < l.c → open_at l.flags l.off l.low j ≡ false

abbrev pub invariant-loop-i : goal.invariant-loop-i
invariant-loop-i l = (j : ℕ) → suc j < l.i → eqb (get_or l.flags (l.k + get_or l.off (suc j) 0) 0) 0 ≡ false
