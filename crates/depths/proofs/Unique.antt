-- Unique: no second answer, and no second content of the room, fits what the writer promises. Assumes nothing.
use mathlib.Core.Path.{◌≡◌, sym, ◌∙◌}
use mathlib.Core.List.{List}
use Prim.Native.Nat.{ℕ}
use Rattle.grid.specs.declared.Sides.{Sides}
use Rattle.grid.specs.State.{Lent}
use Rattle.record.specs.Writing.{Written}
use Rattle.depths.specs.declared.Corner.{Corner}
use Rattle.depths.specs.Outcome.{Wrote}

pub write-unique : (s : Sides) (t : Corner) (a : Lent) (room : List ℕ) {w v : Written} {k l : List ℕ} → Wrote s t a room w k → Wrote s t a room v l → (w ≡ v) × (k ≡ l)
write-unique s t a room x y = (x.answer-is ∙ sym y.answer-is, x.room-is ∙ sym y.room-is)
