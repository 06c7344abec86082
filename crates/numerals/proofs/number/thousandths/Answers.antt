-- `numerals::number::thousandths`: three digits, each at most 9. Assumes nothing.
use Rattle.numerals.proofs.Digits.{thousandths-are, first-le, second-le, thousandths-lt}
use native.Mathlib.Omega.{arith}
use Rattle.numerals.proofs.number.thousandths.Goals as goal

pub overflow_mul-result : goal.overflow_mul-result
overflow_mul-result c = omega (arith, c.digit_at.ensures, first-le c.args.w.now c.args.k c.requires.k_value)

pub overflow_mul-result-2 : goal.overflow_mul-result-2
overflow_mul-result-2 c = omega (arith, c.digit_at-2.ensures, second-le c.args.w.now c.args.k c.requires.k_value)

pub overflow_add-result : goal.overflow_add-result
overflow_add-result c =
    let a = c.args in
    let h = c.requires.k_value in
    omega (arith, c.digit_at-2.ensures, c.digit_at.ensures, first-le a.w.now a.k h, second-le a.w.now a.k h)

pub overflow_add-result-2 : goal.overflow_add-result-2
overflow_add-result-2 c =
    let a = c.args in
    let e = thousandths-are a.w.now a.k _ _ _ c.digit_at.ensures c.digit_at-2.ensures c.digit_at-3.ensures in
    omega (arith, e, thousandths-lt a.w.now a.k c.requires.k_value)

pub returns : goal.returns
returns c = thousandths-are _ _ _ _ _ c.digit_at.ensures c.digit_at-2.ensures c.digit_at-3.ensures
