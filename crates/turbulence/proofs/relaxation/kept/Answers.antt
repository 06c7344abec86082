use native.Mathlib.Nat.{div-add-mod}
use native.Mathlib.Omega.{arith}
use Rattle.turbulence.proofs.Own.{own-keeps}
use Rattle.turbulence.proofs.relaxation.kept.Goals as goal

pub loop-d-init : goal.loop-d-init
loop-d-init c = (record { is = own-keeps c.args.p c.requires.0 c.requires.1; most = omega arith }, omega arith)

pub raised-k-requires : goal.raised-k-requires
raised-k-requires c = (c.requires.0, c.requires.1, omega (arith, c.loop-d.invariant.1), c.loop-d.invariant.0)

pub loop-d-smaller : goal.loop-d-smaller
loop-d-smaller c = omega (arith, c.loop-d-test.true, div-add-mod c.loop-d.d 2)

pub loop-d-preserved : goal.loop-d-preserved
loop-d-preserved c =
    (c.raised-k.ensures.0, omega (arith, c.raised-k.ensures.1, c.loop-d.invariant.1, div-add-mod c.loop-d.d 2))

pub returns : goal.returns
returns c = c.loop-d.invariant.0
