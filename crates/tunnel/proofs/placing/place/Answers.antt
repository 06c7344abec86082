-- `tunnel::placing::place`: each return is the definition with the tests that led there. Assumes nothing.
use borrow.Author.Tests.{not-true, not-false}
use mathlib.Core.Path.{◌≡◌, sym, ◌∙◌}
use mathlib.Core.Bool.{true}
use mir.Syntax.{w64}
use mir.ValLaws.{to_z-of_z}
use Rattle.lattice.specs.Cell.{edge_good}
use Rattle.grid.specs.Grid.{sides_good}
use Rattle.tunnel.specs.Place.{point_good, placing_of}
use Rattle.tunnel.proofs.placing.place.Lts as lts
use Rattle.tunnel.proofs.placing.place.Reads as reads
use Rattle.tunnel.proofs.placing.place.Tie as tie
use Rattle.tunnel.proofs.placing.place.Goals as goal

abbrev At-Else-not-good_sides : Type 0
At-Else-not-good_sides = lts.Else1 tie.the-claims reads.Pre reads.Post tie.handed_clauses

abbrev At-After-good_edge : Type 0
At-After-good_edge = lts.After-good_edge tie.the-claims reads.Pre reads.Post tie.handed_clauses

abbrev At-Else-not-good_edge : Type 0
At-Else-not-good_edge = lts.Else2 tie.the-claims reads.Pre reads.Post tie.handed_clauses

abbrev At-Else-not-good_point : Type 0
At-Else-not-good_point = lts.Else3 tie.the-claims reads.Pre reads.Post tie.handed_clauses

-- ---- what each test that held has shown
sides : (c : At-Else-not-good_sides) → sides_good c.args.s ≡ true
sides c = sym c.good_sides.ensures ∙ not-false _ c.if-not-good_sides.false-raw

edge-is : (c : At-After-good_edge) → c.good_edge.result ≡ edge_good c.args.edge
edge-is c = let s = c.before.before.before in rw (to_z-of_z w64 s.args.edge s.ranges.edge) at c.good_edge.ensures

edge : (c : At-Else-not-good_edge) → edge_good c.args.edge ≡ true
edge c = sym (edge-is c.before) ∙ not-false _ c.if-not-good_edge.false-raw

origin : (c : At-Else-not-good_point) → point_good c.args.origin ≡ true
origin c = sym c.good_point.ensures ∙ not-false _ c.if-not-good_point.false-raw

point : (c : goal.Else-not-good_point-2) → point_good c.args.point ≡ true
point c = sym c.good_point-2.ensures ∙ not-false _ c.if-not-good_point-2.false-raw

pub returns-then-not-good_sides : goal.returns-then-not-good_sides
unfolding placing_of
returns-then-not-good_sides c = simp (sym c.good_sides.ensures ∙ not-true _ c.if-not-good_sides.true-raw)

pub returns-then-not-good_edge : goal.returns-then-not-good_edge
unfolding placing_of
returns-then-not-good_edge c = simp (sides c.before.before, sym (edge-is c.before) ∙ not-true _ c.if-not-good_edge.true-raw)

pub returns-then-not-good_point : goal.returns-then-not-good_point
unfolding placing_of
returns-then-not-good_point c =
    let d = c.before.before in
    simp (sides d.before.before, edge d, sym c.good_point.ensures ∙ not-true _ c.if-not-good_point.true-raw)

pub returns-then-not-good_point-2 : goal.returns-then-not-good_point-2
unfolding placing_of
returns-then-not-good_point-2 c =
    let d = c.before.before in
    simp (sides d.before.before.before.before, edge d.before.before, origin d, sym c.good_point-2.ensures ∙ not-true _ c.if-not-good_point-2.true-raw)

pub found-requires : goal.found-requires
found-requires c =
    let d = c.before.before in
    let s = d.before.before.before.before.before.before in
    record { s_value = sides d.before.before.before.before; edge_value = rw (to_z-of_z w64 s.args.edge s.ranges.edge) (edge d.before.before); origin_value = origin d; point_value = point c }

pub returns : goal.returns
unfolding placing_of
returns c =
    let d = c.before.before.before in
    let s = d.before.before.before.before.before.before in
    simp (sides d.before.before.before.before, edge d.before.before, origin d, point c.before)
    (rw (to_z-of_z w64 s.args.edge s.ranges.edge) at c.found.ensures)
