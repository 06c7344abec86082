use Rattle.std.proofs.Common.{◌≡◌, sym, ap, ◌∙◌, ℕ, eqb, arith, below_more}
use borrow.Author.Tests.{eq-eqb, ne_eqb}
use Rattle.whole.specs.laws.Search.{first-is, first-all}
use Rattle.tunnel.specs.Place.{placed_number}
use Rattle.profile.specs.Profile.{far}
use Rattle.profile.proofs.testing.first_far.Goals as goal

pub returns-then-refusal_number-eq3 : goal.returns-then-refusal_number-eq3
unfolding far
returns-then-refusal_number-eq3 c = let a = c.args in
    let e : c.refusal_number.result ≡ placed_number c.placed.result = c.refusal_number.ensures in
    sym (first-is a.m (far a.f a.points.now) c.loop-i.i c.loop-i-test.true c.loop-i.invariant
    (ap (λ (n : ℕ). eqb n 3) (sym (e ∙ ap placed_number c.placed.ensures)) ∙ eq-eqb c.refusal_number.result 3 c.if-refusal_number-eq3.true))

pub loop-i-preserved : goal.loop-i-preserved
unfolding far
loop-i-preserved c =
    below_more _ _ c.loop-i.invariant
    (ap (λ (n : ℕ). eqb n 3) (sym (c.refusal_number.ensures ∙ ap placed_number c.placed.ensures)) ∙ ne_eqb c.refusal_number.result 3 c.if-refusal_number-eq3.false)

pub returns : goal.returns
returns c = let a = c.args in sym (first-all a.m (far a.f a.points.now) (λ j h. c.loop-i.invariant j (omega arith)))
