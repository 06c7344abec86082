-- `walls::changes::in_way`: the cell itself, or its neighbours by offsets. Assumes nothing.
use mathlib.Core.Path.{sym, ◌∙◌}
use mathlib.Core.Bool.{not}
use native.Mathlib.Omega.{arith}
use lib.Dec.{eqb}
use Rattle.whole.specs.laws.Bools.{cond_yes, cond_no}
use Rattle.whole.specs.Fold.{any_dir}
use Rattle.grid.specs.Grid.{grid_of}
use Rattle.grid.proofs.Beside.{reach, beside-is}
use Rattle.schemes.specs.Scheme.{own_at}
use Rattle.walls.specs.Outcome.{in_way}
use Rattle.walls.proofs.changes.in_way.Goals as goal

pub bounds-own-c : goal.bounds-own-c
bounds-own-c c = let w = c in omega (arith, w.requires.1, w.requires.2)

pub returns-then-add : goal.returns-then-add
unfolding in_way
returns-then-add c = let w = c.args in
    sym (cond_yes (not (eqb (own_at w.own.now w.c) 0)) (any_dir 18 (λ i. eqb (own_at w.own.now ((grid_of w.s).near w.c i)) 2)) c.if-add.true)

pub beside-requires : goal.beside-requires
beside-requires c = let w = c in
    reach (record { table = c.offsets-off.ensures; lowest = c.low_of-low.ensures }) w.args.c w.requires.3 w.args.own.now w.requires.1

pub returns : goal.returns
unfolding in_way
returns c = let w = c in
    c.beside.ensures
    ∙ beside-is (record { table = c.offsets-off.ensures; lowest = c.low_of-low.ensures }) w.args.c w.requires.3 w.args.own.now 0 2 w.requires.1
    ∙ sym (cond_no (not (eqb (own_at w.args.own.now w.args.c) 0)) (any_dir 18 (λ i. eqb (own_at w.args.own.now ((grid_of w.args.s).near w.args.c i)) 2)) c.if-add.false)
