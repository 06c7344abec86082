-- `turbulence::relaxation::own_relaxation`: by the definition, pair by pair. Assumes nothing.
use mathlib.Core.Path.{◌≡◌, sym, ◌∙◌, ap, ap₂, subst}
use mathlib.Core.Bool.{true}
use Prim.Native.Nat.{◌≤◌}
use native.Mathlib.Omega.{arith}
use lib.IntN.{ℤ, pos, nat_abs}
use lib.Signed.{◌≤ℤ◌}
use mir.Syntax.{w64}
use mir.Val.{to_z, of_z}
use mir.Facts.{to_z-of_z}
use Rattle.whole.specs.laws.Bounds.{abs-above}
use Rattle.whole.specs.laws.Order.{≤ℤ-trans}
use Rattle.whole.specs.laws.Casts.{index-asks, signed_is}
use Rattle.whole.specs.laws.Machine.{w64-in}
use Rattle.lattice.specs.Cell.{relaxation_good}
use Rattle.lattice.proofs.Ranges.{relaxation-in}
use Rattle.turbulence.specs.Turbulence.{own, own_relaxation}
use Rattle.turbulence.proofs.Tensor.{tension-is}
use Rattle.turbulence.proofs.Own.{own_range}
use Rattle.turbulence.proofs.Laws.{good-range, positive}
use Rattle.turbulence.proofs.relaxation.own_relaxation.Goals as goal

small : (c : goal.After-own_from) → c.own_from.result ≤ 2037
small c = omega (arith, c.own_from.ensures, own_range (nat_abs (to_z w64 (of_z w64 c.args.p))) c.tension.result)

some : (c : goal.After-own_from) → 1 ≤ c.own_from.result
some c = omega (arith, c.own_from.ensures, own_range (nat_abs (to_z w64 (of_z w64 c.args.p))) c.tension.result)

pub overflow_cast-p : goal.overflow_cast-p
overflow_cast-p c = index-asks w64 (w64-in c.ranges.p (relaxation-in c.args.p c.requires.2)) tt (≤ℤ-trans (record { le = tt }) (positive c.args.p c.requires.2))

pub own_from-requires : goal.own_from-requires
own_from-requires c =
    let s = c.before.before in
    let e = to_z-of_z s.ranges.p in
    (rw e (abs-above (positive s.args.p s.requires.2)), rw e (relaxation-in s.args.p s.requires.2).abs, c.tension.ensures.1, rw e s.requires.3)

pub overflow_cast-result : goal.overflow_cast-result
overflow_cast-result c = record { sfits = omega (arith, small c) }

pub returns : goal.returns
unfolding own_relaxation
returns c =
    let t = c.before in
    let b = t.before in
    let s = b.before in
    let e = signed_is w64 c.own_from.result 2037 (small c) tt in (
      e ∙ ap pos (c.own_from.ensures ∙ ap₂ own (ap nat_abs (to_z-of_z s.ranges.p)) (t.tension.ensures.0 ∙ tension-is _ b.beyond.result b.beyond.ensures.0)),
      subst (λ (z : ℤ). relaxation_good z ≡ true) (sym e) (good-range c.own_from.result (some c) (small c)),
    )
