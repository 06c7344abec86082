-- `turbulence::stress::slack`: parts within ±2^21 and their equilibrium fit. Assumes nothing.
use Prim.Native.Nat.{◌+◌, ◌*◌}
use native.Mathlib.Omega.{arith}
use Rattle.whole.specs.laws.Machine.{does-fit, reads_as, within_by}
use Rattle.lattice.proofs.Reading.{reading}
use Rattle.turbulence.proofs.stress.slack.Goals as goal

pub overflow_add-result-3 : goal.overflow_add-result-3
overflow_add-result-3 c =
    let s = c.before.before in
    let a = s.requires.0.at (2 * s.args.h + 1) (omega arith) (omega arith) in
    let b = s.requires.0.at (2 * s.args.h + 2) (omega arith) (omega arith) in
    let e = s.requires.2 in
    does-fit (search reading depth 20) tt

pub overflow_sub-result : goal.overflow_sub-result
overflow_sub-result c =
    let s = c.before.before in
    let a = s.requires.0.at (2 * s.args.h + 1) (omega arith) (omega arith) in
    let b = s.requires.0.at (2 * s.args.h + 2) (omega arith) (omega arith) in
    let e = s.requires.2 in
    does-fit (search reading depth 20) tt

pub returns : goal.returns
returns c =
    let s = c.before.before in
    let a = s.requires.0.at (2 * s.args.h + 1) (omega arith) (omega arith) in
    let b = s.requires.0.at (2 * s.args.h + 2) (omega arith) (omega arith) in
    let e = s.requires.2 in
    (reads_as (search reading depth 20) tt, within_by (search reading depth 20) tt)
