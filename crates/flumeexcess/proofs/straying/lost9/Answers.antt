-- `flumeexcess::straying::lost9`: with no target the even weights add up to 0. Assumes nothing.
use mathlib.Core.Path.{sym, ◌∙◌}
use Prim.Native.Nat.{◌-◌}
use native.Mathlib.Omega.{arith}
use Rattle.whole.specs.laws.Bools.{cond_yes, cond_no}
use Rattle.excess.specs.inner.Gifts.{even_at, lost_at}
use Rattle.excess.proofs.Leans.{weights-fit, even-in, dirs-at}
use Rattle.excess.proofs.Sent.{no_target, some-target}
use Rattle.excess.proofs.Readings.{told64, bits-zero, zero_bits}
use Rattle.flumeexcess.proofs.straying.lost9.Goals as goal

pub total-requires : goal.total-requires
total-requires c =
    let s = c in
    let k = s.args.c - s.args.low in
    weights-fit (even_at s.args.flags.now s.args.off.now k) c.evens.ensures (λ i d. record { abs = omega (arith, (even-in s.args.flags.now s.args.off.now k i).abs) })

pub returns-then-total-eq0 : goal.returns-then-total-eq0
unfolding lost_at
returns-then-total-eq0 c =
    let t = c in
    let s = t in
    let k = s.args.c - s.args.low in
    told64 c.excess9.type_inv c.excess9.ensures
    ∙ sym (cond_no _ _ (no_target s.args.flags.now s.args.off.now k
    (sym (dirs-at (even_at s.args.flags.now s.args.off.now k) t.evens.ensures) ∙ sym t.total.ensures ∙ bits-zero t.total.type_inv c.if-total-eq0.true)))

pub returns : goal.returns
unfolding lost_at
returns c =
    let t = c in
    let s = t in
    let k = s.args.c - s.args.low in
    sym (cond_yes _ _ (some-target s.args.flags.now s.args.off.now k
    (λ z. c.if-total-eq0.false (zero_bits (t.total.ensures ∙ dirs-at (even_at s.args.flags.now s.args.off.now k) t.evens.ensures ∙ z)))))
