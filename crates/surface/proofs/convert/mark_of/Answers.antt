-- `surface::convert::mark_of`: each test of the code is the definition's, over numbers that fit. Assumes nothing.
use mathlib.Core.Path.{◌≡◌, sym, ◌∙◌, ap}
use mathlib.Core.Bool.{Bool, false}
use lib.IntN.{ℤ, pos, neg_ℤ, ◌-ℤ◌, ◌*ℤ◌, +ℤ_idl}
use lib.Signed.{lt_z}
use Rattle.whole.specs.laws.Machine.{machine, w64-in, does-fit}
use Rattle.whole.specs.laws.Tests.{flags, clean}
use Rattle.lattice.specs.Cell.{over, under}
use Rattle.surface.proofs.convert.mark_of.Goals as goal

-- not filled
below : (c : goal.Else-m-rho) → over c.args.m c.args.rho ≡ false
unfolding over
below c = clean c.if-m-rho.false (search (machine, flags, w64-in) depth 20) tt

-- the code's −ρ
negated : (a r : ℤ) {t : Bool} → lt_z a (pos 0 -ℤ r) ≡ t → lt_z a (neg_ℤ r) ≡ t
negated a r e = ap (λ (z : ℤ). lt_z a z) (sym (+ℤ_idl (neg_ℤ r))) ∙ e

pub overflow_mul-m : goal.overflow_mul-m
overflow_mul-m c = does-fit (search (machine, w64-in) depth 20) tt

pub overflow_mul-rho : goal.overflow_mul-rho
overflow_mul-rho c = does-fit (search (machine, w64-in) depth 20) tt

pub returns-then-m-rho : goal.returns-then-m-rho
unfolding over
returns-then-m-rho c = rw (clean c.if-m-rho.true (search (machine, flags, w64-in) depth 20) tt)

pub overflow_mul-m-2 : goal.overflow_mul-m-2
overflow_mul-m-2 c = does-fit (search (machine, w64-in) depth 20) tt

pub overflow_sub-rho : goal.overflow_sub-rho
overflow_sub-rho c = does-fit (search (machine, w64-in) depth 20) tt

pub returns-then-m-rho-2 : goal.returns-then-m-rho-2
unfolding under
returns-then-m-rho-2 c = rw (
  below c.before,
  negated (pos 1000 *ℤ c.args.m) c.args.rho
      (clean c.if-m-rho-2.true (search (machine, flags, w64-in) depth 20) tt),
)

pub returns : goal.returns
unfolding under
returns c = rw (
  below c.before,
  negated (pos 1000 *ℤ c.args.m) c.args.rho
      (clean c.if-m-rho-2.false (search (machine, flags, w64-in) depth 20) tt),
)
