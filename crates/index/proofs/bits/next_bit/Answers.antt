-- `index::bits::next_bit`: the lowest set bit of what is left when the bits below b are taken away. Assumes nothing.
use mathlib.Core.Path.{sym, ap, ◌∙◌, subst}
use Prim.Native.Nat.{ℕ, ◌*◌, ◌%◌, ◌-◌, ◌^◌, ◌<◌}
use native.Mathlib.Nat.{mod-le}
use native.Mathlib.Omega.{arith}
use lib.Count.{count_trailing_zeros, trailing_le}
use lib.Pow.{pow_pos}
use Rattle.index.proofs.Digits.{next-is, one_shifted}
use Rattle.index.proofs.bits.next_bit.Goals as goal

pub nonzero_rem-result : goal.nonzero_rem-result
nonzero_rem-result c = subst (λ (x : ℕ). 0 < x) (sym (one_shifted c.args.b c.requires)) (pow_pos c.args.b)

pub overflow_sub-result : goal.overflow_sub-result
overflow_sub-result c = mod-le _ _

pub overflow_cast-result : goal.overflow_cast-result
overflow_cast-result c = record { fits = omega (arith, trailing_le 64 (c.args.w - c.args.w % (1 * 2 ^ c.args.b % 2 ^ 64))) }

pub returns : goal.returns
returns c = ap (λ (x : ℕ). count_trailing_zeros 64 (c.args.w - c.args.w % x)) (one_shifted c.args.b c.requires) ∙ next-is c.args.w c.args.b c.requires
