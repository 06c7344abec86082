-- `lattice::rules::good_liquid`: the tests in the code's order are the definition's; what one has shown the next may lean on. Assumes nothing.
use mathlib.Core.Path.{◌≡◌, sym, ◌∙◌, ap, ap₂, subst}
use mathlib.Core.Bool.{Bool, true, ◌&&◌}
use lib.Dec.{eqb}
use lib.IntN.{ℤ, pos}
use lib.Signed.{◌<ℤ◌}
use borrow.Author.Tests.{eq-eqb, ne_eqb, not-true, not-false}
use mir.Syntax.{w32, w64}
use mir.Val.{to_z, of_z}
use Rattle.whole.specs.Fold.{all}
use Rattle.whole.specs.laws.Machine.{same, machine, within_by, reads_as}
use Rattle.lattice.specs.Lattice.{d3q19}
use Rattle.lattice.specs.Cell.{part_good, mass_good, fill_of}
use Rattle.lattice.specs.inner.Held.{parts_of, Tame, steady_flow, good_fluid, good_interface}
use Rattle.lattice.specs.Body.{body_good, eq_z}
use Rattle.lattice.proofs.Bodies.{inside-bounded, flow-x, flow-y, flow-z, body_is, no-parts, broken, dense-positive}
use Rattle.lattice.proofs.Equal.{bits-eq_z}
use Rattle.lattice.proofs.Reading.{reading, whole32}
use Rattle.lattice.proofs.Tame.{steady-tame}
use Rattle.lattice.proofs.rules.good_liquid.Lts as lts
use Rattle.lattice.proofs.rules.good_liquid.Reads as reads
use Rattle.lattice.proofs.rules.good_liquid.Tie as tie
use Rattle.lattice.proofs.rules.good_liquid.Goals as goal

abbrev At-Else-not-steady : Type 0
At-Else-not-steady = lts.Else2 tie.the-claims reads.Pre reads.Post

abbrev At-After-fair_mass : Type 0
At-After-fair_mass = lts.After-fair_mass tie.the-claims reads.Pre reads.Post

-- what each test that held has shown
parts_in : (c : goal.Else-not-all_inside) → all 19 (λ k. part_good (parts_of c.args.f k)) ≡ true
parts_in c = sym c.all_inside.ensures ∙ not-false _ c.if-not-all_inside.false-raw

steady-is : (c : At-Else-not-steady) → steady_flow c.flow_of-v.result ≡ true
steady-is c = sym c.steady.ensures ∙ not-false _ c.if-not-steady.false-raw

tame : (c : At-Else-not-steady) → Tame c.flow_of-v.result
tame c = steady-tame c.flow_of-v.result (steady-is c)

body-good : (c : At-Else-not-steady) → body_good d3q19 (parts_of c.args.f) ≡ true
body-good c =
    let e = c.flow_of-v.ensures in
    sym (body_is c.args.f c.flow_of-v.result e.0 e.1) ∙ ap₂ ◌&&◌ (parts_in c.before.before.before) (steady-is c)

mass-is : (c : At-After-fair_mass) → c.fair_mass.result ≡ mass_good c.args.m
mass-is c =
    let s = c.before.before.before.before.before.before.before.before in
    let m = same c.wide.ensures (whole32 s.ranges.m) in
    let e : to_z w64 (of_z w64 c.wide.result) ≡ s.args.m = reads_as (search machine depth 20) tt in
    c.fair_mass.ensures ∙ ap mass_good e

pub returns-then-not-all_inside : goal.returns-then-not-all_inside
returns-then-not-all_inside c =
    let s = c.args in
    sym (broken (eqb s.fl 2) (parts_of s.f) s.m s.fill (no-parts s.f (sym c.all_inside.ensures ∙ not-true _ c.if-not-all_inside.true-raw)))

pub flow_of-v-requires : goal.flow_of-v-requires
flow_of-v-requires c = inside-bounded c.args.f (parts_in c)

pub steady-requires : goal.steady-requires
steady-requires c =
    let f = c.args.f in
    let v = c.flow_of-v.result in
    let e = c.flow_of-v.ensures.1 in
    let b = inside-bounded f (parts_in c.before) in
    (flow-x f b v e 400000000 tt, flow-y f b v e 400000000 tt, flow-z f b v e 400000000 tt)

pub returns-then-not-steady : goal.returns-then-not-steady
returns-then-not-steady c =
    let s = c.args in
    let e = c.flow_of-v.ensures in
    sym (broken (eqb s.fl 2) (parts_of s.f) s.m s.fill
    (sym (body_is s.f c.flow_of-v.result e.0 e.1)
    ∙ ap₂ ◌&&◌ (parts_in c.before.before.before) (sym c.steady.ensures ∙ not-true _ c.if-not-steady.true-raw)))

pub returns-then-fl-eq2 : goal.returns-then-fl-eq2
unfolding good_fluid
returns-then-fl-eq2 c =
    let s = c.before.before.before.before.before.before.before.before in
    let v = c.flow_of-v.result in
    rw (eq-eqb s.args.fl 2 c.if-fl-eq2.true, body-good c.before.before.before)
    (ap (λ (b : Bool). b && eqb s.args.fill 65536)
    (bits-eq_z w32 s.args.m v.rho s.ranges.m (record { sfits = c.struct_told-1.given.0.1 }) ∙ ap (eq_z s.args.m) c.flow_of-v.ensures.0))

pub returns-then-not-fair_mass : goal.returns-then-not-fair_mass
unfolding good_interface
returns-then-not-fair_mass c =
    let s = c.before.before.before.before.before.before.before.before.before in
    rw (ne_eqb s.args.fl 2 c.if-fl-eq2.false, body-good c.before.before.before.before, sym (mass-is c.before) ∙ not-true _ c.if-not-fair_mass.true-raw)

pub part_fill-requires : goal.part_fill-requires
part_fill-requires c =
    let t = tame c.before.before.before.before.before.before.before in
    let h = t.rho in
    let r = same c.wide-3.ensures (search reading depth 20) in
    let e : to_z w64 (of_z w64 c.wide-3.result) ≡ c.flow_of-v.result.rho = reads_as (search machine depth 20) tt in
    (subst (λ (z : ℤ). pos 0 <ℤ z) (sym e) (dense-positive t.low), within_by (search machine depth 20) tt)

pub returns : goal.returns
unfolding good_interface
returns c =
    let s = c.before.before.before.before.before.before.before.before.before.before.before.before.before in
    let t = tame c.before.before.before.before.before.before.before.before in
    let h = t.rho in
    let r = same c.wide-3.ensures (search reading depth 20) in
    let m = same c.wide-2.ensures (whole32 s.ranges.m) in
    let er : to_z w64 (of_z w64 c.wide-3.result) ≡ c.flow_of-v.result.rho = reads_as (search machine depth 20) tt in
    let em : to_z w64 (of_z w64 c.wide-2.result) ≡ s.args.m = reads_as (search machine depth 20) tt in
    rw (ne_eqb s.args.fl 2 c.if-fl-eq2.false, body-good c.before.before.before.before.before.before.before.before, sym (mass-is c.before.before.before.before.before) ∙ not-false _ c.if-not-fair_mass.false-raw)
    (ap (eqb s.args.fill) (c.part_fill.ensures ∙ ap₂ fill_of em (er ∙ c.flow_of-v.ensures.0)))
