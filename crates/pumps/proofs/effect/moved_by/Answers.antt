-- `pumps::effect::moved_by`: each return is the definition with the tests that led there. Assumes nothing.
use mathlib.Core.Path.{◌∙◌}
use lib.IntN.{pos}
use mir.Syntax.{w64}
use mir.Facts.{to_z-of_z, sfits_lit}
use Rattle.whole.specs.laws.Tests.{le_test, lt_test}
use Rattle.pumps.specs.Acts.{moved_of}
use Rattle.pumps.proofs.effect.moved_by.Goals as goal

pub returns-then-pour : goal.returns-then-pour
unfolding moved_of
returns-then-pour c = to_z-of_z c.ranges.amount ∙ simp c.if-pour.true

pub returns-then-mass-le0 : goal.returns-then-mass-le0
unfolding moved_of
returns-then-mass-le0 c =
    let s = c in
    simp (c.if-pour.false, le_test {w = w64} {b = pos 0} s.ranges.mass (sfits_lit tt) c.if-mass-le0.true)

pub returns-then-mass-amount : goal.returns-then-mass-amount
unfolding moved_of
returns-then-mass-amount c =
    let s = c in
    to_z-of_z s.ranges.mass
    ∙ simp (c.if-pour.false, le_test {w = w64} {b = pos 0} s.ranges.mass (sfits_lit tt) c.if-mass-le0.false, lt_test s.ranges.mass s.ranges.amount c.if-mass-amount.true)

pub returns : goal.returns
unfolding moved_of
returns c =
    let s = c in
    to_z-of_z s.ranges.amount
    ∙ simp (c.if-pour.false, le_test {w = w64} {b = pos 0} s.ranges.mass (sfits_lit tt) c.if-mass-le0.false, lt_test s.ranges.mass s.ranges.amount c.if-mass-amount.false)
