-- `turbulence::root::start`: n is above 0, so it has at most 63 leading zeros. Assumes nothing.
use Prim.Native.Nat.{ℕ, zero, suc, ◌+◌, ◌^◌, ◌≤◌, ◌<◌}
use mathlib.Core.Path.{◌≡◌}
use native.Mathlib.Omega.{arith}
use lib.Count.{count_leading_zeros, leading_length}
use Rattle.turbulence.proofs.root.start.Goals as goal

zeros-most : (n : ℕ) → 0 < n → n < 2 ^ 64 → count_leading_zeros 64 n ≤ 63
zeros-most n h k = let l = leading_length 64 n k in go l.0 l.1 l.2
  where
    go : (m : ℕ) → count_leading_zeros 64 n + m ≡ 64 → n < 2 ^ m → count_leading_zeros 64 n ≤ 63
    go zero e b = absurd (omega arith)
    go (suc m) e b = omega arith

pub overflow_sub-b : goal.overflow_sub-b
overflow_sub-b c = zeros-most c.args.n c.requires c.ranges.n.fits
