use mathlib.Core.Path.{◌≡◌, refl, sym, ap, ◌∙◌}
use native.Mathlib.Omega.{arith}
use borrow.Author.Rules.{rules, sfits_of}
use lib.IntN.{pos}
use lib.ListN.{length, get_or}
use mir.Syntax.{w32, w64}
use mir.Val.{SFits, to_z, of_z}
use mir.Facts.{to_z-of_z}
use Rattle.whole.specs.Fold.{sum}
use Rattle.whole.specs.laws.Bounds.{abs-add}
use Rattle.whole.specs.laws.Machine.{known, reads_as, same, v+, v64}
use Rattle.counts.specs.Counts.{mass_sum}
use Rattle.counts.proofs.Addends.{mass_in, mass-more, abs_mag}
use Rattle.counts.proofs.counting.mass_sum.Goals as goal

pub loop-mass-init : goal.loop-mass-init
unfolding sum
loop-mass-init c = (refl, omega arith)

pub loop-mass-preserved : goal.loop-mass-preserved
loop-mass-preserved c =
    let l = c.loop-mass in
    let ms = c.args.masses.now in
    let m = get_or ms l.mass-index (pos 0) in
    let s = mass_in ms l.mass-index in
    let f : SFits w32 m = search rules in
    let low = abs_mag m 2147483648 f.sfits in
    let told : to_z w64 (of_z w64 c.wide-sum.result) ≡ m = to_z-of_z (sfits_of {w = w64} c.wide-sum.type_inv) ∙ c.wide-sum.ensures ∙ to_z-of_z f in
    let e = mass-more ms l.mass-index in (
      -- 862 masses are below 2^41
      reads_as (v64 (v+ (same l.invariant.0 (known s 1851131068416 (omega (arith, l.invariant.1, c.loop-mass-test.true, c.requires)))) (same told (known m 2147483648 low)))) tt ∙ e,
      rw (sym e) (omega (arith, abs-add s m, l.invariant.1, low)),
    )

pub returns-clause-value : goal.returns-clause-value
unfolding mass_sum
returns-clause-value c =
    let e : c.loop-mass.mass-index ≡ length c.args.masses.now = omega arith in
    c.loop-mass.invariant.0 ∙ ap (mass_in c.args.masses.now) e
