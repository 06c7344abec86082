-- `numerals::number::plain`: the digits, then what follows them. Assumes nothing.
use Rattle.std.proofs.Common.{Some}
use mathlib.Core.Path.{◌≡◌, sym, ap, ◌∙◌}
use mathlib.Core.Bool.{true}
use borrow.Author.Tests.{not-true, not-false}
use native.Mathlib.Omega.{arith}
use Prim.Native.Nat.{◌+◌, ◌*◌}
use Rattle.numerals.specs.declared.text.Kind.TheVariants.{Digit}
use Rattle.numerals.specs.Text.{of_kind, run}
use Rattle.numerals.specs.Number.{ends_well, value_to, thousandths_at}
use Rattle.numerals.proofs.Digits.{plain-few, plain-many, plain_other, plain-so, value-small, thousandths-lt}
use Rattle.numerals.proofs.number.plain.Lts as lts
use Rattle.numerals.proofs.number.plain.Reads as reads
use Rattle.numerals.proofs.number.plain.Tie as tie
use Rattle.numerals.proofs.number.plain.Goals as goal

abbrev At-After-past-k : Type 0
At-After-past-k = lts.After-past tie.the-claims reads.Pre reads.Post tie.handed_clauses

abbrev At-Else-not-ends_well : Type 0
At-Else-not-ends_well = lts.Else3 tie.the-claims reads.Pre reads.Post tie.handed_clauses

-- the digits in front
digits_are : (c : At-After-past-k) → c.past-k.result ≡ run (of_kind Digit) c.args.w.now
digits_are c = omega (arith, c.past-k.ensures)

-- what every test showed
good : (c : At-Else-not-ends_well) → ends_well c.args.w.now c.past-k.result ≡ true
good c = sym c.ends_well.ensures ∙ not-false _ c.if-not-ends_well.false-raw

pub returns-then-k-lt1 : goal.returns-then-k-lt1
returns-then-k-lt1 c = plain-few _ (omega (arith, digits_are c.before.before))

pub returns-then-k-gt12 : goal.returns-then-k-gt12
returns-then-k-gt12 c = plain-many _ (omega (arith, digits_are c.before.before.before)) (omega (arith, digits_are c.before.before.before))

pub returns-then-not-ends_well : goal.returns-then-not-ends_well
returns-then-not-ends_well c =
    let e = digits_are c.before.before.before.before.before in
    plain_other _ (omega (arith, e)) (omega (arith, e)) (sym (ap (ends_well _) e) ∙ sym c.ends_well.ensures ∙ not-true _ c.if-not-ends_well.true-raw)

pub overflow_mul-result : goal.overflow_mul-result
overflow_mul-result c = omega (arith, digits_are c.before.before.before.before.before.before, c.value.ensures, value-small c.args.w.now c.past-k.result (omega arith) (omega (arith, digits_are c.before.before.before.before.before.before)))

pub thousandths-requires : goal.thousandths-requires
thousandths-requires c = record { k_bound = omega arith; k_value = good c.before.before }

pub overflow_add-result : goal.overflow_add-result
overflow_add-result c =
    let p = c.before.before.before.before.before.before.before in
    let w = p.args.w.now in
    omega (arith, c.value.ensures, value-small w p.past-k.result (omega arith) (omega (arith, digits_are p)), c.thousandths.ensures, thousandths-lt w p.past-k.result (good c.before.before.before))

pub returns : goal.returns
returns c =
    let p = c.before.before.before.before.before.before.before in
    let w = p.args.w.now in
    let k = run (of_kind Digit) w in
    let e = digits_are p in
    let v : c.value.result ≡ value_to w k = c.value.ensures ∙ ap (value_to w) e in
    let t : c.thousandths.result ≡ thousandths_at w k = c.thousandths.ensures ∙ ap (thousandths_at w) e in
    let s : 1000 * c.value.result + c.thousandths.result ≡ 1000 * value_to w k + thousandths_at w k = omega (arith, v, t) in
    ap Some s ∙ plain-so w (omega (arith, e)) (omega (arith, e)) (sym (ap (ends_well w) e) ∙ good c.before.before.before)
