-- `lattice::moments::steady`: the density's two tests, then the definition's comparison of products that fit. Assumes nothing.
use mathlib.Core.Path.{◌≡◌}
use mathlib.Core.Bool.{true}
use lib.IntN.{pos}
use lib.Signed.{le_z}
use mir.Syntax.{w32}
use Rattle.whole.specs.laws.Order.{lt_z-true, lt_z-false, ≤-le_z, <-le_z}
use Rattle.whole.specs.laws.Machine.{machine, any, same, does-fit}
use Rattle.whole.specs.laws.Tests.{flags, flag-as, clean}
use Rattle.lattice.specs.Cell.{dense, slow}
use Rattle.lattice.specs.inner.Held.{steady_flow}
use Rattle.lattice.proofs.Reading.{reading}
use Rattle.lattice.proofs.moments.steady.Lts as lts
use Rattle.lattice.proofs.moments.steady.Reads as reads
use Rattle.lattice.proofs.moments.steady.Tie as tie
use Rattle.lattice.proofs.moments.steady.Goals as goal

abbrev At-Else-v-lt294912 : Type 0
At-Else-v-lt294912 = lts.Else1 tie.the-claims reads.Pre reads.Post

abbrev At-Else-v-gt1179648 : Type 0
At-Else-v-gt1179648 = lts.Else2 tie.the-claims reads.Pre reads.Post

low : (c : At-Else-v-lt294912) → le_z (pos 294912) c.args.v.rho ≡ true
low c =
    let r = any w32 c.args.v.rho c.struct_told-1.given.0.1 in
    ≤-le_z {a = pos 294912} {b = c.args.v.rho} (lt_z-false (clean c.if-v-lt294912.false (search (machine, flags) depth 20) tt))

high : (c : At-Else-v-gt1179648) → le_z c.args.v.rho (pos 1179648) ≡ true
high c =
    let r = any w32 c.args.v.rho c.struct_told-2-1.given.0.1 in
    ≤-le_z {a = c.args.v.rho} {b = pos 1179648} (lt_z-false (clean c.if-v-gt1179648.false (search (machine, flags) depth 20) tt))

pub returns-then-v-lt294912 : goal.returns-then-v-lt294912
unfolding steady_flow dense
returns-then-v-lt294912 c =
    let r = any w32 c.args.v.rho c.struct_told-1.given.0.1 in
    rw (<-le_z {a = pos 294912} {b = c.args.v.rho} (lt_z-true (clean c.if-v-lt294912.true (search (machine, flags) depth 20) tt)))

pub returns-then-v-gt1179648 : goal.returns-then-v-gt1179648
unfolding steady_flow dense
returns-then-v-gt1179648 c =
    let r = any w32 c.args.v.rho c.struct_told-2-1.given.0.1 in
    rw (low c.before.before.before, <-le_z {a = c.args.v.rho} {b = pos 1179648} (lt_z-true (clean c.if-v-gt1179648.true (search (machine, flags) depth 20) tt)))

pub overflow_mul-result : goal.overflow_mul-result
overflow_mul-result c =
    let s = c.before.before.before.before.before.before.before.before in
    let x = s.requires.0 in
    let y = s.requires.1 in
    let z = s.requires.2 in
    let q = same c.speed_squared.ensures (search reading depth 20) in
    does-fit (search reading depth 20) tt

pub returns : goal.returns
unfolding steady_flow dense slow
returns c =
    let e = c.before.before.before.before in
    let s = c.before.before.before.before.before.before.before.before.before.before in
    let x = s.requires.0 in
    let y = s.requires.1 in
    let z = s.requires.2 in
    let r = any w32 s.args.v.rho c.struct_told-4-1.given.0.1 in
    let q = same c.speed_squared.ensures (search reading depth 20) in
    let t = same c.times.ensures (search machine depth 20) in
    rw (low e.before.before.before, high e) (flag-as (search (machine, flags) depth 20) tt)
