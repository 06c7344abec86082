-- `index::bits::ones_below`: the bits below b are those of the rest by 2 ^ b. Assumes nothing.
use Rattle.index.specs.Index.{bit_set}
use mathlib.Core.Path.{sym, ap, ◌∙◌, subst}
use Prim.Native.Nat.{ℕ, ◌%◌, ◌<◌}
use native.Mathlib.Omega.{arith}
use lib.Count.{ones}
use lib.Pow.{pow_pos}
use Rattle.index.proofs.Digits.{ones-under, one_shifted}
use Rattle.whole.specs.laws.Counts.{count_most}
use Rattle.index.proofs.bits.ones_below.Goals as goal

pub nonzero_rem-result : goal.nonzero_rem-result
nonzero_rem-result c = subst (λ (x : ℕ). 0 < x) (sym (one_shifted c.args.b c.requires)) (pow_pos c.args.b)

pub overflow_cast-result : goal.overflow_cast-result
overflow_cast-result c = record { fits = omega (arith, ap (λ (x : ℕ). ones (c.args.w % x)) (one_shifted c.args.b c.requires), ones-under c.args.w c.args.b, count_most c.args.b (bit_set c.args.w), c.requires) }

pub returns : goal.returns
returns c = ap (λ (x : ℕ). ones (c.args.w % x)) (one_shifted c.args.b c.requires) ∙ ones-under c.args.w c.args.b
