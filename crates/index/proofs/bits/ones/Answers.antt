-- `index::bits::ones`: the machine's count is that of the bits. Assumes nothing.
use native.Mathlib.Omega.{arith}
use lib.Count.{ones-le}
use Rattle.index.proofs.Digits.{ones-count}
use Rattle.index.proofs.bits.ones.Goals as goal

pub overflow_cast-result : goal.overflow_cast-result
overflow_cast-result c = record { fits = omega (arith, ones-le 64 c.args.w c.ranges.w.fits) }

pub returns : goal.returns
returns c = ones-count 64 c.args.w c.ranges.w.fits
