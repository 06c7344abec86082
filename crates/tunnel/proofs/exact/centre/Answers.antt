-- `tunnel::exact::centre` is exact: 2x + 1 is below 2^24, and 2 is a power of two. Assumes nothing.
use lib.Dec.{le→leb}
use lib.Ieee.{of_bits, in_float}
use native.Mathlib.Omega.{arith}
use Prim.Native.Nat.{◌+◌, ◌*◌}
use Rattle.tunnel.proofs.Floats.{quotient-exact}
use Rattle.tunnel.proofs.exact.centre.Goals as goal

pub int_to_float-result : goal.int_to_float-result
unfolding in_float
int_to_float-result c = le→leb (2 * c.args.x + 1) 16777216 (omega arith)

pub returns : goal.returns
unfolding of_bits
returns c = quotient-exact (2 * c.args.x + 1) 1 (omega arith) (omega arith)
