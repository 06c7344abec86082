-- `turbulence::stress::square_of_difference`: two numbers within ±2^23 have a difference within ±2^24. Assumes nothing.
use mathlib.Core.Path.{◌∙◌, ap}
use Rattle.whole.specs.laws.Machine.{does-fit, reads_as, within_by}
use Rattle.lattice.proofs.Reading.{reading}
use Rattle.turbulence.specs.Turbulence.{square}
use Rattle.turbulence.proofs.stress.square_of_difference.Goals as goal

pub overflow_sub-a : goal.overflow_sub-a
overflow_sub-a c =
    let a = c.requires.0 in let b = c.requires.1 in
    does-fit (search reading depth 20) tt

pub square-requires : goal.square-requires
square-requires c =
    let a = c.requires.0 in let b = c.requires.1 in
    within_by (search reading depth 20) tt

pub returns : goal.returns
returns c =
    let a = c.requires.0 in let b = c.requires.1 in
    (c.square.ensures.0 ∙ ap square (reads_as (search reading depth 20) tt), c.square.ensures.1)
