use mathlib.Core.Path.{refl}
use Prim.Native.Nat.{◌+◌, ◌≤◌}
use native.Mathlib.Omega.{arith}
use native.Mathlib.Nat.{not-suc-le-zero}
use Rattle.grid.specs.declared.Sides.{Sides}
use Rattle.grid.specs.Grid.{sides_good, cells_of}
use mathlib.Core.Path.{◌≡◌}
use mathlib.Core.Bool.{true}
use Rattle.grid.proofs.GoodSides.{good-sides}
use Rattle.grid.proofs.Coordinates.{stands-first}
use Rattle.grid.proofs.Rows.{found, none_found, row-place, row_room, row_next, passed}
use Rattle.checks.proofs.layer.first_bad_flag.Goals as goal

-- the grid is small
small : (s : Sides) → sides_good s ≡ true → cells_of s ≤ 262144
unfolding cells_of
small s g = (good-sides s g).all

pub loop-c-init : goal.loop-c-init
loop-c-init c = (omega arith, record { stands = stands-first _ c.requires.0; first = refl }, λ k l. absurd (not-suc-le-zero l))

pub first_in_row-x-requires : goal.first_in_row-x-requires
first_in_row-x-requires c = (c.requires.0, c.requires.1, c.loop-c-test.true, c.loop-c.invariant.1)

pub overflow_add-result : goal.overflow_add-result
overflow_add-result c =
    record { fits = omega (arith, c.requires.1, row_room c.loop-c.invariant.1 (omega (arith, c.requires.1, c.loop-c-test.true)), c.first_in_row-x.ensures.most, small c.args.s c.requires.0) }

pub returns-then-x-s : goal.returns-then-x-s
returns-then-x-s c =
    let a = c.args in
    let f = c.first_in_row-x.ensures in
    let l = c.loop-c in
    found a.s a.flags.now (l.c + c.first_in_row-x.result) c.requires.1
    (omega (arith, row_room l.invariant.1 (omega (arith, c.requires.1, c.loop-c-test.true)), c.if-x-s.true, c.requires.1))
    (passed a.s a.flags.now l.c _ l.invariant.2 f.before) (f.here c.if-x-s.true)

pub overflow_sub-q : goal.overflow_sub-q
overflow_sub-q c = omega (arith, (good-sides _ c.requires.0).x.low)

pub after-p-requires : goal.after-p-requires
after-p-requires c =
    (c.requires.0, row-place c.loop-c.invariant.1 _ (omega (arith, (good-sides _ c.requires.0).x.low)) (omega (arith, c.requires.1, c.loop-c-test.true)))

pub overflow_add-c : goal.overflow_add-c
overflow_add-c c = record { fits = omega (arith, c.requires.1, row_room c.loop-c.invariant.1 (omega (arith, c.requires.1, c.loop-c-test.true)), small c.args.s c.requires.0) }

pub loop-c-smaller : goal.loop-c-smaller
loop-c-smaller c = omega (arith, (good-sides _ c.requires.0).x.low, c.loop-c-test.true)

pub loop-c-preserved : goal.loop-c-preserved
loop-c-preserved c =
    let a = c.args in
    let l = c.loop-c in (
      omega (arith, row_room l.invariant.1 (omega (arith, c.requires.1, c.loop-c-test.true)), c.requires.1),
      rw c.after-p.ensures (row_next l.invariant.1 c.requires.0),
      λ k m. passed a.s a.flags.now l.c _ l.invariant.2 c.first_in_row-x.ensures.before k (omega (arith, c.if-x-s.false)),
    )

pub returns : goal.returns
returns c = none_found c.args.s c.args.flags.now c.loop-c.c c.requires.1 c.loop-c.invariant.0 c.loop-c-test.false c.loop-c.invariant.2
