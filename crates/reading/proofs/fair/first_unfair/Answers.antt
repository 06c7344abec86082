use Rattle.std.proofs.Common.{◌≡◌, sym, ap, ◌∙◌, true, false, not, ℕ, ◌+◌, length, arith, rules, below_more}
use Rattle.whole.specs.Fold.{count}
use Rattle.whole.specs.laws.Search.{first-is, first-all}
use Rattle.lattice.specs.Lattice.{d3q19}
use Rattle.grid.specs.State.{flag_of}
use Rattle.record.specs.Layout.{interfaces, liquids}
use Rattle.record.specs.inner.Passes.{fair_at}
use Rattle.record.proofs.Gathered.{interfaces-more, interfaces-le, liquids-more, liquids-le}
use Rattle.reading.proofs.Fairness.{fair-at}
use Rattle.reading.proofs.fair.first_unfair.Goals as goal

pub loop-c-init : goal.loop-c-init
unfolding interfaces liquids count
loop-c-init c = (omega arith, omega arith, λ j h. absurd (omega arith))

pub fair_cell-requires : goal.fair_cell-requires
fair_cell-requires c = let s = c.args.flags.now in
    let k = c.loop-c.c in
    let h = c.loop-c-test.true in
    record {
      flag_in_bounds = omega (arith, interfaces-more s k h, interfaces-le (k + 1) (length s) (flag_of s) (omega arith), c.requires.flags_in_bounds);
      flag_in_bounds_2 = omega (arith, liquids-more s k h, liquids-le (k + 1) (length s) (flag_of s) (omega arith), c.requires.flags_in_bounds_2);
    }

pub returns-then-not-fair_cell : goal.returns-then-not-fair_cell
returns-then-not-fair_cell c = let a = c.args in
    let (m, p, fair) = c.loop-c.invariant in
    let here = c.fair_cell.ensures ∙ fair-at d3q19 19 a.rec.now a.flags.now a.masses a.parts c.loop-c.m c.loop-c.p c.loop-c.c c.loop-c-test.true m p in
    let off : c.fair_cell.result ≡ false = search rules in
    sym (first-is (length a.flags.now) (λ j. not (fair_at a.rec.now a.flags.now a.masses a.parts j)) c.loop-c.c c.loop-c-test.true (λ j h. ap not (fair j h)) (ap not (sym here ∙ off)))

pub overflow_add-m : goal.overflow_add-m
overflow_add-m c = let s = c.args.flags.now in
    let k = c.loop-c.c in
    omega (arith, c.one_interface.ensures, interfaces-more s k c.loop-c-test.true, interfaces-le (k + 1) (length s) (flag_of s) (omega arith), c.requires.flags_in_bounds)

pub overflow_add-p : goal.overflow_add-p
overflow_add-p c = let s = c.args.flags.now in
    let k = c.loop-c.c in
    omega (arith, c.one_liquid.ensures, liquids-more s k c.loop-c-test.true, liquids-le (k + 1) (length s) (flag_of s) (omega arith), c.requires.flags_in_bounds_2)

pub loop-c-preserved : goal.loop-c-preserved
loop-c-preserved c = let a = c.args in
    let s = a.flags.now in
    let h = c.loop-c-test.true in
    let (m, p, fair) = c.loop-c.invariant in
    let here = c.fair_cell.ensures ∙ fair-at d3q19 19 a.rec.now s a.masses a.parts c.loop-c.m c.loop-c.p c.loop-c.c h m p in
    let on : c.fair_cell.result ≡ true = search rules in (
      omega (arith, c.one_interface.ensures, interfaces-more s c.loop-c.c h),
      omega (arith, c.one_liquid.ensures, liquids-more s c.loop-c.c h),
      below_more (λ (j : ℕ). fair_at a.rec.now s a.masses a.parts j ≡ true) c.loop-c.c fair (sym here ∙ on),
    )

pub returns : goal.returns
returns c = let a = c.args in
    let (m, p, fair) = c.loop-c.invariant in
    sym (first-all (length a.flags.now) (λ j. not (fair_at a.rec.now a.flags.now a.masses a.parts j)) (λ j h. ap not (fair j (omega arith))))
