-- `walls::changes::placing`: tests 13 and 17. Assumes nothing.
use mathlib.Core.Path.{sym, ◌∙◌}
use native.Mathlib.Omega.{arith}
use Rattle.walls.proofs.Answers.{place-outside, place-outer, place-already, place-free}
use Rattle.walls.proofs.changes.placing.Goals as goal

pub returns-then-c-map : goal.returns-then-c-map
returns-then-c-map c = let w = c in place-outside w.args.s w.args.map.now w.args.add w.args.c w.requires.1 c.if-c-map.true

pub returns-then-outer : goal.returns-then-outer
returns-then-outer c = let w = c in place-outer w.args.s w.args.map.now w.args.add w.args.c w.requires.1 (omega (arith, c.if-c-map.false)) (sym c.outer.ensures ∙ c.if-outer.true)

pub returns-then-map-c : goal.returns-then-map-c
returns-then-map-c c = let w = c in
    place-already w.args.s w.args.map.now w.args.add w.args.c w.requires.1 (omega (arith, c.if-c-map.false)) (sym c.outer.ensures ∙ c.if-outer.false)
    (c.if-map-c.true ∙ c.wanted_byte.ensures)

pub returns : goal.returns
returns c = let w = c in
    place-free w.args.s w.args.map.now w.args.add w.args.c w.requires.1 (omega (arith, c.if-c-map.false)) (sym c.outer.ensures ∙ c.if-outer.false)
    (λ e. c.if-map-c.false (e ∙ sym c.wanted_byte.ensures))
