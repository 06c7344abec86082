-- `tunnel::cell::cell_point`: each return is the definition with the tests that led there. Assumes nothing.
use borrow.Author.Tests.{eq-eqb, ne_eqb, lt-ltb, le-ltb, le-leb, lt-leb}
use Rattle.tunnel.specs.Point.{point_of, is-refused, is-point}
use Rattle.tunnel.proofs.cell.cell_point.Goals as goal

pub returns-then-not-good_sides : goal.returns-then-not-good_sides
unfolding point_of
returns-then-not-good_sides c = simp (← c.if-not-good_sides.ensures) is-refused

pub returns-then-fills-n : goal.returns-then-fills-n
unfolding point_of
returns-then-fills-n c = simp (← c.if-not-good_sides.ensures, ← c.cells-n.ensures, ne_eqb _ _ c.if-fills-n.true) is-refused

pub returns-then-n-c : goal.returns-then-n-c
unfolding point_of
returns-then-n-c c = simp (← c.if-not-good_sides.ensures, ← c.cells-n.ensures, eq-eqb _ _ c.if-fills-n.false, le-ltb _ _ c.if-n-c.true) is-refused

pub returns-then-m-gt65536 : goal.returns-then-m-gt65536
unfolding point_of
returns-then-m-gt65536 c =
    simp (← c.if-not-good_sides.ensures, ← c.cells-n.ensures, eq-eqb _ _ c.if-fills-n.false, lt-ltb _ _ c.if-n-c.false, lt-leb _ _ c.if-m-gt65536.true) is-refused

pub returns : goal.returns
unfolding point_of
returns c =
    simp (← c.if-not-good_sides.ensures, ← c.cells-n.ensures, eq-eqb _ _ c.if-fills-n.false, lt-ltb _ _ c.if-n-c.false, le-leb _ _ c.if-m-gt65536.false)
    (is-point c.accepted.ensures)
