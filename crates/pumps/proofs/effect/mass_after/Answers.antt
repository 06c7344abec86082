-- `pumps::effect::mass_after`: the sum or the difference of two small numbers. Assumes nothing.
use mathlib.Core.Path.{sym, ap, ◌∙◌}
use mathlib.Core.Bool.{Bool}
use Rattle.whole.specs.laws.Machine.{machine, w64-in, does-fit, reads_as}
use Rattle.pumps.specs.Acts.{mass_of}
use Rattle.pumps.proofs.effect.mass_after.Goals as goal

pub overflow_add-result : goal.overflow_add-result
overflow_add-result c =
    let h = c.requires.0 in
    let k = c.requires.1 in
    does-fit (search (machine, w64-in) depth 30 fits 5000) tt

pub returns-then-pour : goal.returns-then-pour
returns-then-pour c =
    let s = c in
    let h = s.requires.0 in
    let k = s.requires.1 in
    reads_as (search (machine, w64-in) depth 30 fits 5000) tt ∙ sym (ap (λ (b : Bool). mass_of b s.args.mass s.args.moved) c.if-pour.true)

pub overflow_sub-result : goal.overflow_sub-result
overflow_sub-result c =
    let h = c.requires.0 in
    let k = c.requires.1 in
    does-fit (search (machine, w64-in) depth 30 fits 5000) tt

pub returns : goal.returns
returns c =
    let s = c in
    let h = s.requires.0 in
    let k = s.requires.1 in
    reads_as (search (machine, w64-in) depth 30 fits 5000) tt ∙ sym (ap (λ (b : Bool). mass_of b s.args.mass s.args.moved) c.if-pour.false)
