use Rattle.std.proofs.Common.{◌≡◌, refl, sym, subst, Bool, true, false, List, ℕ, zero, suc, ◌<◌, ◌-◌, ℤ, pos, length, get_or, w64, arith, rules, below_more}
use lib.Signed.{le_z}
use Rattle.whole.specs.laws.Search.{first-is, first-all}
use Rattle.whole.specs.laws.Tests.{le_test}
use Rattle.profile.specs.Profile.{not_above}
use Rattle.profile.proofs.testing.first_not_above.Goals as goal

-- the first has none before it
first_above : (l : List ℤ) (j : ℕ) → j < 1 → not_above l j ≡ false
first_above l zero h = refl
first_above l (suc j) h = absurd (omega arith)

-- what the test says of chainage i
at_least_one : (l : List ℤ) (i : ℕ) (t : Bool) → 0 < i → le_z (get_or l i (pos 0)) (get_or l (i - 1) (pos 0)) ≡ t → not_above l i ≡ t
at_least_one l zero t h e = absurd (omega arith)
at_least_one l (suc i) t h e = subst (λ (j : ℕ). le_z (get_or l (suc i) (pos 0)) (get_or l j (pos 0)) ≡ t) (let k : suc i - 1 ≡ i = omega arith in k) e

pub loop-i-init : goal.loop-i-init
loop-i-init c = first_above c.args.chainages.now

pub returns-then-chainages-i : goal.returns-then-chainages-i
returns-then-chainages-i c = let a = c.args.chainages.now in
    let i = c.loop-i.i in
    let t = le_test {w = w64} {a = get_or a i (pos 0)} {b = get_or a (i - 1) (pos 0)} (search rules) (search rules) c.if-chainages-i.true in
    sym (first-is (length a) (not_above a) i c.loop-i-test.true c.loop-i.invariant (at_least_one a i true (omega arith) t))

pub loop-i-preserved : goal.loop-i-preserved
loop-i-preserved c = let a = c.args.chainages.now in
    let i = c.loop-i.i in
    let t = le_test {w = w64} {a = get_or a i (pos 0)} {b = get_or a (i - 1) (pos 0)} (search rules) (search rules) c.if-chainages-i.false in
    below_more _ _ c.loop-i.invariant (at_least_one a i false (omega arith) t)

pub returns : goal.returns
returns c = let l = c.args.chainages.now in sym (first-all (length l) (not_above l) (λ j h. c.loop-i.invariant j (omega arith)))
