-- `walks::copying::copy` makes dst the same as src, element by element: what was passed is. Assumes nothing.
use Rattle.std.specs.Prelude.{◌≡◌, length, take}
use Rattle.walks.proofs.copying.copy.Given as goal

abbrev pub invariant-loop-i : goal.invariant-loop-i
invariant-loop-i g l = (length l.dst ≡ length l.src) × (take l.i l.dst ≡ take l.i l.src)
