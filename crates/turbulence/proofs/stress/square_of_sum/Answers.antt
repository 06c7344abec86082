-- `turbulence::stress::square_of_sum`: five numbers within ±2^23 have a sum within ±2^26. Assumes nothing.
use mathlib.Core.Path.{◌∙◌, ap}
use Rattle.whole.specs.laws.Machine.{does-fit, reads_as, within_by}
use Rattle.lattice.proofs.Reading.{reading}
use Rattle.turbulence.specs.Turbulence.{square}
use Rattle.turbulence.proofs.stress.square_of_sum.Goals as goal

pub overflow_add-a : goal.overflow_add-a
overflow_add-a c =
    let a = c.requires.0 in let b = c.requires.1 in let g = c.requires.2 in let d = c.requires.3 in let e = c.requires.4 in
    does-fit (search reading depth 20) tt

pub overflow_add-a-2 : goal.overflow_add-a-2
overflow_add-a-2 c =
    let a = c.requires.0 in let b = c.requires.1 in let g = c.requires.2 in let d = c.requires.3 in let e = c.requires.4 in
    does-fit (search reading depth 20) tt

pub overflow_add-a-3 : goal.overflow_add-a-3
overflow_add-a-3 c =
    let a = c.requires.0 in let b = c.requires.1 in let g = c.requires.2 in let d = c.requires.3 in let e = c.requires.4 in
    does-fit (search reading depth 20) tt

pub overflow_add-a-4 : goal.overflow_add-a-4
overflow_add-a-4 c =
    let a = c.requires.0 in let b = c.requires.1 in let g = c.requires.2 in let d = c.requires.3 in let e = c.requires.4 in
    does-fit (search reading depth 20) tt

pub square-requires : goal.square-requires
square-requires c =
    let a = c.requires.0 in let b = c.requires.1 in let g = c.requires.2 in let d = c.requires.3 in let e = c.requires.4 in
    within_by (search reading depth 20) tt

pub returns : goal.returns
returns c =
    let a = c.requires.0 in let b = c.requires.1 in let g = c.requires.2 in let d = c.requires.3 in let e = c.requires.4 in
    (c.square.ensures.0 ∙ ap square (reads_as (search reading depth 20) tt), c.square.ensures.1)
