-- Unique: no second number or place, and no second content of the second set, fits what the exported call promises. Assumes nothing.
use mathlib.Core.Path.{◌≡◌, sym, ◌∙◌}
use Prim.Native.Nat.{ℕ}
use Rattle.grid.specs.State.{Lent}
use Rattle.flume.specs.declared.FlumeSides.{FlumeSides}
use Rattle.hostflumemirror.specs.Promise.{FlumeMirrorTold}

pub mirror-unique : (s : FlumeSides) (axis : ℕ) (a b : Lent) {n m p q : ℕ} {x y : Lent} → FlumeMirrorTold s axis a b n p x → FlumeMirrorTold s axis a b m q y → (n ≡ m) × (p ≡ q) × (x ≡ y)
mirror-unique s axis a b u v = (u.number_is ∙ sym v.number_is, u.place_is ∙ sym v.place_is, u.second_is ∙ sym v.second_is)
