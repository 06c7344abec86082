-- `columns::column::column_depth`: each return is the definition with the tests that led there. Assumes nothing.
use borrow.Author.Tests.{eq-eqb, ne_eqb, lt-ltb, le-ltb}
use mathlib.Core.Path.{sym, ◌∙◌}
use Rattle.tunnel.specs.Depth.{depth_of, is-refused}
use Rattle.columns.proofs.column.column_depth.Goals as goal

pub returns-then-not-good_sides : goal.returns-then-not-good_sides
unfolding depth_of
returns-then-not-good_sides c = simp (← c.if-not-good_sides.ensures) is-refused

pub returns-then-flags-n : goal.returns-then-flags-n
unfolding depth_of
returns-then-flags-n c = simp (← c.if-not-good_sides.ensures, ← c.cells-n.ensures, ne_eqb _ _ c.if-flags-n.true) is-refused

pub returns-then-fills-n : goal.returns-then-fills-n
unfolding depth_of
returns-then-fills-n c = simp (← c.if-not-good_sides.ensures, ← c.cells-n.ensures, eq-eqb _ _ c.if-flags-n.false, ne_eqb _ _ c.if-fills-n.true) is-refused

pub returns-then-s-x : goal.returns-then-s-x
unfolding depth_of
returns-then-s-x c =
    simp (← c.if-not-good_sides.ensures, ← c.cells-n.ensures, eq-eqb _ _ c.if-flags-n.false, eq-eqb _ _ c.if-fills-n.false, le-ltb _ _ c.if-s-x.true) is-refused

pub returns-then-s-y : goal.returns-then-s-y
unfolding depth_of
returns-then-s-y c =
    simp (
      ← c.if-not-good_sides.ensures,
      ← c.cells-n.ensures,
      eq-eqb _ _ c.if-flags-n.false,
      eq-eqb _ _ c.if-fills-n.false,
      lt-ltb _ _ c.if-s-x.false,
      le-ltb _ _ c.if-s-y.true,
    )
    is-refused

pub measured-requires : goal.measured-requires
measured-requires c =
    record {
      in_column = record { good = sym c.if-not-good_sides.ensures; all = c.if-flags-n.false ∙ c.cells-n.ensures; in-x = c.if-s-x.false; in-y = c.if-s-y.false };
      in_column_2 = record { good = sym c.if-not-good_sides.ensures; all = c.if-fills-n.false ∙ c.cells-n.ensures; in-x = c.if-s-x.false; in-y = c.if-s-y.false };
    }

pub returns : goal.returns
unfolding depth_of
returns c =
    simp (
      ← c.if-not-good_sides.ensures,
      ← c.cells-n.ensures,
      eq-eqb _ _ c.if-flags-n.false,
      eq-eqb _ _ c.if-fills-n.false,
      lt-ltb _ _ c.if-s-x.false,
      lt-ltb _ _ c.if-s-y.false,
    )
    c.measured.ensures
