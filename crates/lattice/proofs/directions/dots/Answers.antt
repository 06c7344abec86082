-- `lattice::directions::dots`: each sum fits, and the array is the table's e·v, by one computed test over the nineteen forms. Assumes nothing.
use mathlib.Core.Path.{◌∙◌}
use Rattle.whole.specs.laws.Machine.{does-fit}
use Rattle.lattice.proofs.Reading.{reading, list-as, vnil, vcons}
use Rattle.lattice.proofs.Table.{dots-right}
use Rattle.lattice.proofs.directions.dots.Goals as goal

pub overflow_sub-result : goal.overflow_sub-result
overflow_sub-result c = does-fit (search reading depth 20) tt

pub overflow_sub-result-2 : goal.overflow_sub-result-2
overflow_sub-result-2 c = does-fit (search reading depth 20) tt

pub overflow_sub-result-3 : goal.overflow_sub-result-3
overflow_sub-result-3 c = does-fit (search reading depth 20) tt

pub overflow_add-result : goal.overflow_add-result
overflow_add-result c = does-fit (search reading depth 20) tt

pub overflow_sub-result-4 : goal.overflow_sub-result-4
overflow_sub-result-4 c = does-fit (search reading depth 20) tt

pub overflow_sub-result-5 : goal.overflow_sub-result-5
overflow_sub-result-5 c = does-fit (search reading depth 20) tt

pub overflow_sub-result-6 : goal.overflow_sub-result-6
overflow_sub-result-6 c = does-fit (search reading depth 20) tt

pub overflow_sub-result-7 : goal.overflow_sub-result-7
overflow_sub-result-7 c = does-fit (search reading depth 20) tt

pub overflow_add-result-2 : goal.overflow_add-result-2
overflow_add-result-2 c = does-fit (search reading depth 20) tt

pub overflow_add-result-3 : goal.overflow_add-result-3
overflow_add-result-3 c = does-fit (search reading depth 20) tt

pub overflow_sub-result-8 : goal.overflow_sub-result-8
overflow_sub-result-8 c = does-fit (search reading depth 20) tt

pub overflow_sub-result-9 : goal.overflow_sub-result-9
overflow_sub-result-9 c = does-fit (search reading depth 20) tt

pub overflow_sub-result-10 : goal.overflow_sub-result-10
overflow_sub-result-10 c = does-fit (search reading depth 20) tt

pub overflow_sub-result-11 : goal.overflow_sub-result-11
overflow_sub-result-11 c = does-fit (search reading depth 20) tt

pub overflow_add-result-4 : goal.overflow_add-result-4
overflow_add-result-4 c = does-fit (search reading depth 20) tt

pub overflow_add-result-5 : goal.overflow_add-result-5
overflow_add-result-5 c = does-fit (search reading depth 20) tt

pub overflow_sub-result-12 : goal.overflow_sub-result-12
overflow_sub-result-12 c = does-fit (search reading depth 20) tt

pub overflow_sub-result-13 : goal.overflow_sub-result-13
overflow_sub-result-13 c = does-fit (search reading depth 20) tt

pub overflow_sub-result-14 : goal.overflow_sub-result-14
overflow_sub-result-14 c = does-fit (search reading depth 20) tt

pub overflow_sub-result-15 : goal.overflow_sub-result-15
overflow_sub-result-15 c = does-fit (search reading depth 20) tt

pub overflow_add-result-6 : goal.overflow_add-result-6
overflow_add-result-6 c = does-fit (search reading depth 20) tt

pub returns : goal.returns
returns c =
    let s = c.before.before.before in
    let v = s.args.v in
    let hx = s.requires.0 in
    let hy = s.requires.1 in
    let hz = s.requires.2 in
    list-as (search (reading, vnil, vcons) depth 60 fits 50000) tt ∙ dots-right v.x v.y v.z
