use Rattle.std.proofs.Common.{sym, ap, ◌∙◌, ℕ, ◌||◌, eqb, arith, below_more}
use Rattle.whole.specs.laws.Search.{first-is, first-all}
use Rattle.tunnel.proofs.Cases.{tells}
use Rattle.profile.specs.Profile.{broken, survey}
use Rattle.profile.proofs.testing.first_broken.Goals as goal

pub returns-then-refuses : goal.returns-then-refuses
unfolding broken
returns-then-refuses c = let a = c.args in
    sym (first-is a.m (broken (survey a.f a.flags.now a.fills.now a.points.now)) c.loop-i.i c.loop-i-test.true c.loop-i.invariant
    (sym (ap (λ (n : ℕ). eqb n 4 || eqb n 6) (c.depth_number.ensures ∙ (tells c.look.ensures).number_is)) ∙ sym c.refuses.ensures ∙ c.if-refuses.true))

pub loop-i-preserved : goal.loop-i-preserved
unfolding broken
loop-i-preserved c =
    below_more _ _ c.loop-i.invariant
    (sym (ap (λ (n : ℕ). eqb n 4 || eqb n 6) (c.depth_number.ensures ∙ (tells c.look.ensures).number_is)) ∙ sym c.refuses.ensures ∙ c.if-refuses.false)

pub returns : goal.returns
returns c = let a = c.args in
    sym (first-all a.m (broken (survey a.f a.flags.now a.fills.now a.points.now)) (λ j h. c.loop-i.invariant j (omega arith)))
