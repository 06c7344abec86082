use mathlib.Core.Path.{◌≡◌, sym, ◌∙◌, ap}
use native.Mathlib.Numerals.{add-one}
use native.Mathlib.Omega.{arith}
use lib.IntN.{ℤ, ◌+ℤ◌}
use mir.Syntax.{w32}
use mir.Val.{to_z, of_z}
use Rattle.whole.specs.Fold.{sum}
use Rattle.whole.specs.laws.Bounds.{abs-add}
use Rattle.whole.specs.laws.Machine.{known, reads_as}
use Rattle.lattice.specs.Lattice.{density, d3q19}
use Rattle.lattice.specs.inner.Held.{parts_of}
use Rattle.lattice.proofs.Pairs.{sum_one}
use Rattle.lattice.proofs.Reading.{reading}
use Rattle.lattice.proofs.moments.density.Goals as goal

pub loop-i-init : goal.loop-i-init
loop-i-init c =
    let f = parts_of c.args.f in
    let a = c.requires.rest in
    let e : to_z w32 (of_z w32 (f 0)) ≡ f 0 = reads_as (search reading depth 20) tt in
    (e ∙ sym (sum_one f), rw e (omega (arith, a.abs)))

pub loop-i-preserved : goal.loop-i-preserved
unfolding sum
loop-i-preserved c =
    let l = c.loop-i in
    let x = parts_of c.args.f l.i in
    let a = c.requires.at l.i (omega arith) (omega arith) in
    let r = known (to_z w32 l.r-bits) 1711276032 (omega arith) in
    let e : to_z w32 (of_z w32 (to_z w32 l.r-bits +ℤ to_z w32 (of_z w32 x))) ≡ to_z w32 l.r-bits +ℤ x = reads_as (search reading depth 20) tt in
    (e ∙ rw add-one (ap (λ (z : ℤ). z +ℤ x) l.invariant.0), rw e (omega (arith, abs-add (to_z w32 l.r-bits) x, a.abs)))

pub returns : goal.returns
unfolding density d3q19
returns c = let e : c.loop-i.i ≡ 19 = omega arith in rw e at c.loop-i.invariant.0
