-- `pumps::effect::effect`: test 16 part by part, and the numbers where it passes. Assumes nothing.
use borrow.Author.Tests.{not-true, not-false}
use mathlib.Core.Path.{◌≡◌, sym, ap₂, ◌∙◌, subst}
use mathlib.Core.Bool.{true}
use lib.IntN.{ℤ, pos, ◌+ℤ◌}
use lib.Signed.{le_z}
use mir.Syntax.{w64}
use mir.Val.{SFits, to_z, of_z}
use mir.Facts.{to_z-of_z}
use Rattle.whole.specs.laws.Machine.{Within, known, v+, does-fit}
use Rattle.pumps.specs.Acts.{amount_good, moved_of, mass_of}
use Rattle.pumps.proofs.Amounts.{held}
use Rattle.pumps.proofs.Effects.{lt_not_le, mass-in, bad-amount, bad-mass, bad-total, all-good, moved_in, no-effect, an-effect}
use Rattle.pumps.proofs.effect.effect.Lts as lts
use Rattle.pumps.proofs.effect.effect.Reads as reads
use Rattle.pumps.proofs.effect.effect.Tie as tie
use Rattle.pumps.proofs.effect.effect.Goals as goal

abbrev At-After-good_amount : Type 0
At-After-good_amount = lts.After-good_amount tie.the-claims reads.Pre reads.Post

abbrev At-Else-not-good_amount : Type 0
At-Else-not-good_amount = lts.Else1 tie.the-claims reads.Pre reads.Post

abbrev At-After-wide-m : Type 0
At-After-wide-m = lts.After-wide tie.the-claims reads.Pre reads.Post

abbrev At-Start : Type 0
At-Start = lts.Start tie.the-claims reads.Pre reads.Post

abbrev At-After-mass_after-after : Type 0
At-After-mass_after-after = lts.After-mass_after tie.the-claims reads.Pre reads.Post

-- the amount
amount-is : (c : At-After-good_amount) → c.good_amount.result ≡ amount_good c.args.amount
amount-is c = rw (to_z-of_z c.ranges.amount) at c.good_amount.ensures

good : (c : At-Else-not-good_amount) → amount_good c.args.amount ≡ true
good c = sym (amount-is c.before) ∙ not-false _ c.if-not-good_amount.false-raw

-- the mass, what is moved, and the mass after it
mass-is : (c : At-After-wide-m) → to_z w64 (of_z w64 c.wide-m.result) ≡ c.args.mass
mass-is c = held w64 c.wide-m.result c.wide-m.type_inv ∙ c.wide-m.ensures ∙ to_z-of_z c.ranges.mass

abbrev start : goal.After-moved_by-moved → At-Start
start c = c.before.before.before.before

abbrev t : goal.After-moved_by-moved → ℤ
t c = moved_of (start c).args.pour (start c).args.amount (start c).args.mass

moved-is : (c : goal.After-moved_by-moved) → to_z w64 (of_z w64 c.moved_by-moved.result) ≡ t c
moved-is c =
    held w64 c.moved_by-moved.result c.moved_by-moved.type_inv ∙ c.moved_by-moved.ensures
    ∙ ap₂ (moved_of (start c).args.pour) (to_z-of_z (start c).ranges.amount) (mass-is c.before)

small : (c : goal.After-moved_by-moved) → Within (t c) 2359296
small c = let a = (start c).args in moved_in a.pour a.amount a.mass a.total (good c.before.before) (start c).requires.0

after_is : (c : At-After-mass_after-after) → to_z w64 (of_z w64 c.mass_after-after.result) ≡ mass_of (start c.before).args.pour (start c.before).args.mass (t c.before)
after_is c =
    held w64 c.mass_after-after.result c.mass_after-after.type_inv ∙ c.mass_after-after.ensures
    ∙ ap₂ (mass_of (start c.before).args.pour) (mass-is c.before.before) (moved-is c.before)

light : (c : goal.Else-after-gt2359296) → (let s = start c.before.before in le_z (mass_of s.args.pour s.args.mass (t c.before.before)) (pos 2359296) ≡ true)
light c =
    let s = start c.before.before in
    not-false _ (sym (lt_not_le (pos 2359296) (mass_of s.args.pour s.args.mass (t c.before.before))) ∙ (rw (after_is c.before) at c.if-after-gt2359296.false))

sum_fits : (c : goal.After-moved_by-moved) → SFits w64 ((start c).args.total +ℤ t c)
sum_fits c = does-fit (v+ (known (start c).args.total 1000000000000000 (start c).requires.1.abs) (known (t c) 2359296 (small c).abs)) tt

sum_is : (c : goal.After-moved_by-moved) → to_z w64 (of_z w64 (to_z w64 (of_z w64 (start c).args.total) +ℤ to_z w64 (of_z w64 c.moved_by-moved.result))) ≡ (start c).args.total +ℤ t c
sum_is c = rw (moved-is c, to_z-of_z (start c).ranges.total) (to_z-of_z (sum_fits c))

pub returns-then-not-good_amount : goal.returns-then-not-good_amount
returns-then-not-good_amount c = let a = c.args in no-effect a.pour a.amount a.mass a.total (bad-amount a.pour a.amount a.mass a.total (sym (amount-is c.before) ∙ not-true _ c.if-not-good_amount.true-raw))

pub mass_after-after-requires : goal.mass_after-after-requires
mass_after-after-requires c = (subst (λ (z : ℤ). Within z 2359296) (sym (mass-is c.before)) (start c).requires.0, subst (λ (z : ℤ). Within z 2359296) (sym (moved-is c)) (small c))

pub returns-then-after-gt2359296 : goal.returns-then-after-gt2359296
returns-then-after-gt2359296 c =
    let d = c in
    let a = (start d.before.before).args in
    no-effect a.pour a.amount a.mass a.total (bad-mass a.pour a.amount a.mass a.total (good d.before.before.before.before)
    (not-true _ (sym (lt_not_le (pos 2359296) (mass_of a.pour a.mass (t d.before.before))) ∙ (rw (after_is c.before) at c.if-after-gt2359296.true))))

pub overflow_add-sum : goal.overflow_add-sum
overflow_add-sum c = let d = c in rw (moved-is d.before.before, to_z-of_z (start d.before.before).ranges.total) (sum_fits d.before.before)

pub returns-then-sum-gt1000000000000000 : goal.returns-then-sum-gt1000000000000000
returns-then-sum-gt1000000000000000 c =
    let d = c in
    let a = (start d.before.before.before).args in
    no-effect a.pour a.amount a.mass a.total (bad-total a.pour a.amount a.mass a.total (good d.before.before.before.before.before) (light c.before)
    (not-true _ (sym (lt_not_le (pos 1000000000000000) (a.total +ℤ t d.before.before.before)) ∙ (rw (sum_is d.before.before.before) at c.if-sum-gt1000000000000000.true))))

pub overflow_cast-result : goal.overflow_cast-result
overflow_cast-result c = let d = c in let a = (start d.before.before.before).args in rw (after_is c.before.before) (does-fit (known (mass_of a.pour a.mass (t d.before.before.before)) 4718592 (mass-in a.pour a.mass (t d.before.before.before) (start d.before.before.before).requires.0 (small d.before.before.before)).abs) tt)

pub returns : goal.returns
returns c =
    let d = c in
    let a = (start d.before.before.before).args in
    an-effect a.pour a.amount a.mass a.total
    (all-good a.pour a.amount a.mass a.total (good d.before.before.before.before.before) (light c.before) (not-false _ (sym (lt_not_le (pos 1000000000000000) (a.total +ℤ t d.before.before.before)) ∙ (rw (sum_is d.before.before.before) at c.if-sum-gt1000000000000000.false))))
    (moved-is d.before.before.before) (to_z-of_z (overflow_cast-result c) ∙ after_is c.before.before) (sum_is d.before.before.before)
