-- `tunnel::exact::share` is exact: n is below 2^24, and 65,536 is a power of two. Assumes nothing.
use lib.Dec.{le→leb}
use lib.Ieee.{of_bits, in_float}
use native.Mathlib.Omega.{arith}
use Rattle.tunnel.proofs.Floats.{quotient-exact}
use Rattle.tunnel.proofs.exact.share.Goals as goal

pub int_to_float-result : goal.int_to_float-result
unfolding in_float
int_to_float-result c = le→leb c.args.n 16777216 (omega arith)

pub returns : goal.returns
unfolding of_bits
returns c = quotient-exact c.args.n 16 (omega arith) (omega arith)
