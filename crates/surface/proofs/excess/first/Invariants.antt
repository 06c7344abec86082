-- `surface::excess::first`: no direction passed has positive weight, and the one found has. Assumes nothing.
use mathlib.Core.Path.{◌≡◌}
use mathlib.Core.Bool.{false}
use Prim.Native.Nat.{ℕ, ◌<◌}
use Rattle.lattice.specs.Cell.{is_positive}
use Rattle.lattice.specs.inner.Held.{parts_of}
use Rattle.surface.proofs.excess.first.Given as goal

abbrev pub invariant-loop-i : goal.invariant-loop-i
invariant-loop-i l = (j : ℕ) → j < l.i → 0 < j → is_positive (parts_of l.w j) ≡ false
