-- `surface::excess::weight`: the tests are the definition's. Assumes nothing.
use borrow.Author.Tests.{eq-eqb, ne_eqb}
use lib.IntN.{pos}
use mir.Syntax.{w32}
use mir.Facts.{sfits_lit}
use Rattle.whole.specs.laws.Order.{lt_z-true, lt_z-false}
use Rattle.whole.specs.laws.Machine.{machine, same, reads_as}
use Rattle.whole.specs.laws.Tests.{lt_test}
use Rattle.lattice.proofs.Reading.{whole32}
use Rattle.surface.proofs.Weights.{positive-yes, positive-no}
use Rattle.surface.proofs.excess.weight.Goals as goal

pub returns-then-d-gt0 : goal.returns-then-d-gt0
returns-then-d-gt0 c =
    let s = c.before.before.before in
    let d = same c.wide.ensures (whole32 s.ranges.d) in
    rw (eq-eqb s.args.f 1 c.if-f-eq1.true, positive-yes s.args.d (lt_z-true (lt_test {w = w32} {a = pos 0} (sfits_lit tt) s.ranges.d c.if-d-gt0.true)))
    (reads_as (search machine depth 20) tt)

pub returns-else-d-gt0 : goal.returns-else-d-gt0
returns-else-d-gt0 c =
    let s = c.before.before in
    rw (eq-eqb s.args.f 1 c.if-f-eq1.true, positive-no s.args.d (lt_z-false (lt_test {w = w32} {a = pos 0} (sfits_lit tt) s.ranges.d c.if-d-gt0.false)))

pub returns-else-f-eq1 : goal.returns-else-f-eq1
returns-else-f-eq1 c = rw (ne_eqb c.args.f 1 c.if-f-eq1.false)
