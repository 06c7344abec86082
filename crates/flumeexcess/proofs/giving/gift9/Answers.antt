-- `flumeexcess::giving::gift9` is the share of the excess by the weights; with a target these have a total. Assumes nothing.
use mathlib.Core.Path.{sym, subst, ◌∙◌}
use Prim.Native.Nat.{◌-◌}
use lib.IntN.{ℤ, pos}
use lib.Signed.{◌<ℤ◌}
use Rattle.whole.specs.laws.Machine.{Within}
use Rattle.nine.specs.inner.Cells.{part_of9}
use Rattle.excess.specs.inner.Gifts.{weight_at}
use Rattle.excess.proofs.Leans.{weights-fit, weight-in, weight-some, dirs-at}
use Rattle.excess.proofs.Sent.{excess-in, share-told}
use Rattle.excess.proofs.Readings.{told64}
use native.Mathlib.Omega.{arith}
use Rattle.flumeexcess.proofs.giving.gift9.Goals as goal

pub given-requires : goal.given-requires
given-requires c =
    let s = c in
    let a = s.args in
    let f = weight_at a.flags.now a.fills.now a.off.now (a.c - a.low) a.m in
    let e = excess-in (part_of9 a.parts.now) a.masses.now a.m a.c s.requires.0.weighed in (
      subst (λ (z : ℤ). Within z 4294967296) (sym (told64 c.excess9.type_inv c.excess9.ensures)) (record { abs = omega (arith, e.abs) }),
      weights-fit f c.used_weights-w.ensures (weight-in a.flags.now a.fills.now a.off.now (a.c - a.low) a.m s.requires.0.fills-in),
      subst (λ (z : ℤ). pos 0 <ℤ z) (sym (dirs-at f c.used_weights-w.ensures))
          (weight-some a.flags.now a.fills.now a.off.now (a.c - a.low) a.m a.i s.requires.1 s.requires.2),
      s.requires.1.some,
      omega (arith, s.requires.1.most),
    )

pub returns : goal.returns
returns c =
    let s = c in
    let a = s.args in
    told64 c.given.type_inv (c.given.ensures
    ∙ share-told a.flags.now a.fills.now (part_of9 a.parts.now) a.masses.now a.off.now a.low a.c a.m a.i (told64 c.excess9.type_inv c.excess9.ensures) c.used_weights-w.ensures s.requires.1)
