-- `surface::exchange::exchange`: the product fits, and the machine's quotient is the cut one. Assumes nothing.
use mathlib.Core.Path.{sym, ◌∙◌, ap}
use lib.Dec.{lit<}
use lib.IntN.{ℤ, pos, ◌*ℤ◌}
use lib.Signed.{quot_z, yes_non_neg, pos-nat_abs}
use Rattle.whole.specs.laws.Machine.{machine, w64-in, does-fit, reads_as}
use Rattle.lattice.specs.Cell.{exchange}
use Rattle.surface.proofs.exchange.exchange.Goals as goal

pub overflow_mul-result : goal.overflow_mul-result
overflow_mul-result c = does-fit (search (machine, w64-in) depth 20) tt

pub nonzero_div-result : goal.nonzero_div-result
nonzero_div-result c = (lit< tt, does-fit (search (machine, w64-in) depth 20) tt)

pub returns : goal.returns
unfolding exchange
returns c =
    reads_as (search (machine, w64-in) depth 20) tt
    ∙ ap (λ (s : ℤ). quot_z (s *ℤ c.args.d) (pos 131072)) (sym (pos-nat_abs c.args.fills (yes_non_neg c.requires.0)))
