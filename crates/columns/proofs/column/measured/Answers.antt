-- `columns::column::measured`: tests 4 and 6 by their searches, then the reading of the sums. Assumes nothing.
use borrow.Author.Tests.{le-leb, lt-leb}
use mathlib.Core.Path.{subst}
use Prim.Native.Nat.{ℕ, ◌≤◌}
use Rattle.tunnel.specs.Depth.{measured_of, is-refused}
use Rattle.columns.proofs.column.measured.Goals as goal

pub returns-then-f-nz : goal.returns-then-f-nz
unfolding measured_of
returns-then-f-nz c = simp (← c.bad_flag-f.ensures, lt-leb _ _ c.if-f-nz.true, c.number.ensures) is-refused

pub returns-then-g-nz : goal.returns-then-g-nz
unfolding measured_of
returns-then-g-nz c =
    let f = c in
    simp (← f.bad_flag-f.ensures, le-leb _ _ f.if-f-nz.false, ← c.bad_fill-g.ensures, lt-leb _ _ c.if-g-nz.true, c.number-then-g-nz.ensures)
    is-refused

pub summed-c-requires : goal.summed-c-requires
summed-c-requires c =
    let s = c in
    record { in_column = s.requires.in_column; in_column_2 = s.requires.in_column_2; nz_bound = subst (λ (n : ℕ). s.args.s.nz ≤ n) c.bad_fill-g.ensures c.if-g-nz.false }

pub returns : goal.returns
unfolding measured_of
returns c =
    let d = c in
    let f = d in
    let h = c.summed-c.ensures in
    simp (← f.bad_flag-f.ensures, le-leb _ _ f.if-f-nz.false, ← d.bad_fill-g.ensures, le-leb _ _ d.if-g-nz.false, ← h.walls, ← h.adds)
    c.reading.ensures
