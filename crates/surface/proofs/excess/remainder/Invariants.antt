-- `surface::excess::remainder`: what the eighteen cut shares leave of the excess. Assumes nothing.
use mathlib.Core.Path.{◌≡◌}
use mathlib.Core.List.{List}
use Prim.Native.Nat.{ℕ, ◌+◌, ◌*◌, ◌≤◌}
use lib.IntN.{ℤ, nat_abs, ◌-ℤ◌, ◌*ℤ◌}
use lib.Signed.{quot_z}
use Rattle.whole.specs.Fold.{sum}
use Rattle.lattice.specs.inner.Held.{parts_of}
use Rattle.lattice.proofs.Pairs.{off_rest}
use Rattle.surface.proofs.excess.remainder.Given as goal

-- the cut share of direction j, as the code works it out
abbrev pub part : ℤ → ℤ → List ℤ → ℕ → ℤ
part e t w j = quot_z (e *ℤ parts_of w j) t

abbrev pub invariant-loop-i : goal.invariant-loop-i
invariant-loop-i l = (l.r ≡ l.e -ℤ sum l.i (off_rest (part l.e l.t l.w))) × (nat_abs l.r ≤ 4294967296 + l.i * 4294967296000000)
