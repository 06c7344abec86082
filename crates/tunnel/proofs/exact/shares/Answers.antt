-- `tunnel::exact::shares`: the product with 65536 is exact, and so is its cast. Assumes nothing.
use lib.Ieee.{of_bits}
use Rattle.tunnel.proofs.Fractions.{back}
use Rattle.tunnel.proofs.exact.shares.Goals as goal

pub float_to_int-result : goal.float_to_int-result
unfolding of_bits
float_to_int-result c = (back 16 c.requires).may

pub returns : goal.returns
unfolding of_bits
returns c = (back 16 c.requires).is
