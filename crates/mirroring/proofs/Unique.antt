-- Unique: no second answer, and no second content of the set that may be written, fits what the mirror promises. Assumes nothing.
use mathlib.Core.Path.{◌≡◌, sym, ◌∙◌}
use Prim.Native.Nat.{ℕ}
use Rattle.grid.specs.declared.Sides.{Sides}
use Rattle.grid.specs.Answer.{Answer}
use Rattle.grid.specs.State.{Lent}
use Rattle.index.specs.Held.{Held}
use Rattle.mirroring.specs.Promise.{Mirrored}

pub mirror-unique : (s : Sides) (axis : ℕ) (a : Lent) (b : Held) {r t : Answer} {x y : Held} → Mirrored s axis a b r x → Mirrored s axis a b t y → (r ≡ t) × (x ≡ y)
mirror-unique s axis a b u v = (u.answer-is ∙ sym v.answer-is, u.second_is ∙ sym v.second_is)
