-- `counts::counting::total` is the masses and the carry together, where the carry is in its range. Assumes nothing.
use borrow.Author.Rules.{sfits_of}
use borrow.Author.Tests.{leb-true}
use mathlib.Core.Path.{◌≡◌, sym, ap, ◌∙◌}
use mathlib.Core.Bool.{true, false}
use Prim.Native.Nat.{◌≤◌}
use lib.IntN.{ℤ, nat_abs, ◌+ℤ◌}
use mir.Syntax.{w64}
use mir.Val.{to_z, of_z}
use mir.Facts.{to_z-of_z}
use Rattle.whole.specs.laws.Machine.{Val, known, does-fit, reads_as, same, v+, v64}
use Rattle.lattice.specs.Cell.{carry_good}
use Rattle.counts.specs.inner.Totals.{total_by}
use Rattle.counts.proofs.counting.total.Lts as lts
use Rattle.counts.proofs.counting.total.Reads as reads
use Rattle.counts.proofs.counting.total.Tie as tie
use Rattle.counts.proofs.counting.total.Goals as goal

abbrev At-Then-fair_carry : Type 0
At-Then-fair_carry = lts.Then1 tie.the-claims reads.Pre reads.Post tie.handed_clauses

fair : (c : At-Then-fair_carry) → carry_good c.args.carry ≡ true
fair c = ap carry_good (sym (to_z-of_z c.ranges.carry)) ∙ sym c.fair_carry.ensures ∙ c.if-fair_carry.true

carry-low : (k : ℤ) → carry_good k ≡ true → nat_abs k ≤ 1000000000000
carry-low k e = leb-true (nat_abs k) 1000000000000 e

abbrev both : (c : goal.After-mass_sum)
    → Val (to_z w64 (of_z w64 c.mass_sum.result) +ℤ to_z w64 (of_z w64 c.args.carry))
both c =
    let s = c in
    v+ (same (to_z-of_z (sfits_of {w = w64} c.mass_sum.type_inv)) (known c.mass_sum.result 1851131068416 c.mass_sum.ensures.result_bound))
    (same (to_z-of_z s.ranges.carry) (known s.args.carry 1000000000000 (carry-low s.args.carry (fair c.before))))

unfair : (c : goal.Else-fair_carry) → carry_good c.args.carry ≡ false
unfair c = ap carry_good (sym (to_z-of_z c.ranges.carry)) ∙ sym c.fair_carry.ensures ∙ c.if-fair_carry.false

pub overflow_add-result : goal.overflow_add-result
overflow_add-result c = does-fit (both c) tt

pub returns-then-fair_carry : goal.returns-then-fair_carry
unfolding total_by
returns-then-fair_carry c =
    reads_as (v64 (both c)) tt ∙ ap (λ (z : ℤ). z +ℤ c.args.carry) c.mass_sum.ensures.value ∙ simp (fair c.before)

pub returns : goal.returns
unfolding total_by
returns c = simp (unfair c)
