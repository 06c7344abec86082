-- Unique: no second answer, and no second content of the set that may be written, fits what the flume's mirror promises. Assumes nothing.
use mathlib.Core.Path.{◌≡◌, sym, ◌∙◌}
use Prim.Native.Nat.{ℕ}
use Rattle.grid.specs.Answer.{Answer}
use Rattle.grid.specs.State.{Lent}
use Rattle.flume.specs.declared.FlumeSides.{FlumeSides}
use Rattle.flumemirroring.specs.Promise.{FlumeMirrored}

pub mirror-unique : (s : FlumeSides) (axis : ℕ) (a b : Lent) {r t : Answer} {x y : Lent} → FlumeMirrored s axis a b r x → FlumeMirrored s axis a b t y → (r ≡ t) × (x ≡ y)
mirror-unique s axis a b u v = (u.answer-is ∙ sym v.answer-is, u.second_is ∙ sym v.second_is)
