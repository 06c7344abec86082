-- Unique: no second number or place, and no second content of the second set or its index, fits what the exported call promises. Assumes nothing.
use mathlib.Core.Path.{◌≡◌, sym, ◌∙◌}
use Prim.Native.Nat.{ℕ}
use Rattle.grid.specs.declared.Sides.{Sides}
use Rattle.grid.specs.State.{Lent}
use Rattle.index.specs.Held.{Held}
use Rattle.hostmirror.specs.Promise.{MirrorTold}

pub mirror-unique : (s : Sides) (axis : ℕ) (a : Lent) (b : Held) {n m p q : ℕ} {x y : Held} → MirrorTold s axis a b n p x → MirrorTold s axis a b m q y → (n ≡ m) × (p ≡ q) × (x ≡ y)
mirror-unique s axis a b u v = (u.number_is ∙ sym v.number_is, u.place_is ∙ sym v.place_is, u.second_is ∙ sym v.second_is)
