use mathlib.Core.Path.{sym, ◌∙◌}
use native.Mathlib.Omega.{arith}
use borrow.Author.Count.{below_more}
use Rattle.flumegrid.proofs.GoodSides.{few}
use Rattle.flumegrid.proofs.Rows.{tested, row-cell}
use Rattle.flumegrid.proofs.layer.first_in_row.Goals as goal

pub overflow_add-c : goal.overflow_add-c
overflow_add-c c =
    let a = c.args in
    record { fits = omega (arith, row-cell a.s a.c a.z c.loop-x.x c.requires.2 c.loop-x-test.true, few a.s c.requires.0) }

pub bounds-flags-c : goal.bounds-flags-c
bounds-flags-c c =
    let a = c.args in
    omega (arith, c.requires.1, row-cell a.s a.c a.z c.loop-x.x c.requires.2 c.loop-x-test.true)

pub bad_flag-requires : goal.bad_flag-requires
bad_flag-requires c = record { along = omega arith; high = c.requires.2.high }

pub returns-then-bad_flag : goal.returns-then-bad_flag
returns-then-bad_flag c =
    let a = c.args in
    record {
      most = omega arith;
      before = c.loop-x.invariant;
      here = λ h. sym (tested a.s a.c a.z c.loop-x.x c.requires.2 h a.flags.now c.requires.1) ∙ sym c.bad_flag.ensures ∙ c.if-bad_flag.true;
    }

pub loop-x-preserved : goal.loop-x-preserved
loop-x-preserved c =
    let a = c.args in
    below_more _ _ c.loop-x.invariant
    (sym (tested a.s a.c a.z c.loop-x.x c.requires.2 c.loop-x-test.true a.flags.now c.requires.1) ∙ sym c.bad_flag.ensures ∙ c.if-bad_flag.false)
