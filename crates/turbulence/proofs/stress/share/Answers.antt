-- `turbulence::stress::share`: the estimate is the quotient or one less, and what it leaves tells which. Assumes nothing.
use native.Mathlib.Omega.{arith}
use Rattle.turbulence.proofs.Quotients.{product-most, not-above, exact, one_more}
use Rattle.turbulence.proofs.stress.share.Goals as goal

pub overflow_mul-e : goal.overflow_mul-e
overflow_mul-e c = record { fits = product-most c.args.u c.args.den c.args.inv c.requires.den_nonzero.0 c.requires.u_bound.0 c.requires.u_bound.1 c.requires.den_bound.0 c.requires.den_bound.1 }

pub overflow_mul-e-2 : goal.overflow_mul-e-2
overflow_mul-e-2 c =
    let h = not-above c.args.u c.args.den c.args.inv c.requires.den_nonzero.0 c.requires.u_bound.0 c.requires.u_bound.1 c.requires.den_bound.0 c.requires.den_bound.1 in
    record { fits = omega (arith, h, c.ranges.u.fits) }

pub overflow_sub-u : goal.overflow_sub-u
overflow_sub-u c = not-above c.args.u c.args.den c.args.inv c.requires.den_nonzero.0 c.requires.u_bound.0 c.requires.u_bound.1 c.requires.den_bound.0 c.requires.den_bound.1

pub returns-then-u-e : goal.returns-then-u-e
returns-then-u-e c =
    let s = c.before in
    exact s.args.u s.args.den s.args.inv s.requires.den_nonzero.0 s.requires.u_bound.0 s.requires.u_bound.1 s.requires.den_bound.0 s.requires.den_bound.1 c.if-u-e.true

pub overflow_add-result : goal.overflow_add-result
overflow_add-result c =
    let s = c.before in
    let h = product-most s.args.u s.args.den s.args.inv s.requires.den_nonzero.0 s.requires.u_bound.0 s.requires.u_bound.1 s.requires.den_bound.0 s.requires.den_bound.1 in
    record { fits = omega (arith, h) }

pub returns : goal.returns
returns c =
    let s = c.before in
    one_more s.args.u s.args.den s.args.inv s.requires.den_nonzero.0 s.requires.u_bound.0 s.requires.u_bound.1 s.requires.den_bound.0 s.requires.den_bound.1 c.if-u-e.false
