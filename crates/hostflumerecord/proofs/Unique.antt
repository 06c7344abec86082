-- Unique: no second number, place or value, and no second content of a lent slice, fits what an exported call promises. Assumes nothing.
use mathlib.Core.Path.{◌≡◌, sym, ◌∙◌}
use mathlib.Core.List.{List}
use Prim.Native.Nat.{ℕ}
use lib.IntN.{ℤ}
use Rattle.grid.specs.State.{Lent}
use Rattle.flume.specs.declared.FlumeSides.{FlumeSides}
use Rattle.flume.specs.declared.FlumeSettings.{FlumeSettings}
use Rattle.flumerecord.specs.declared.FlumeSite.{FlumeSite}
use Rattle.hostflumerecord.specs.Promise.{FlumeReadTold, FlumeWriteTold}

pub read-unique : (r : List ℕ) (a : Lent) {n m p q : ℕ} {s s' : FlumeSides} {g g' : FlumeSettings} {t t' : FlumeSite} {f f' e e' : ℕ} {b b' c c' : List ℤ} {i i' : List ℕ} {k k' : List ℤ}
    → FlumeReadTold r a n p s g t f e b c i k → FlumeReadTold r a m q s' g' t' f' e' b' c' i' k'
    → (n ≡ m) × (p ≡ q) × (s ≡ s') × (g ≡ g') × (t ≡ t') × (f ≡ f') × (e ≡ e') × (b ≡ b') × (c ≡ c') × (i ≡ i') × (k ≡ k')
read-unique r a x y =
    (x.number_is ∙ sym y.number_is, x.place_is ∙ sym y.place_is, x.sides-are ∙ sym y.sides-are, x.settings-are ∙ sym y.settings-are, x.site-is ∙ sym y.site-is, x.from_is ∙ sym y.from_is, x.to_is ∙ sym y.to_is, x.parts_are ∙ sym y.parts_are, x.masses-are ∙ sym y.masses-are, x.fills-are ∙ sym y.fills-are, x.carry-is ∙ sym y.carry-is)

pub write-unique : (s : FlumeSides) (g : FlumeSettings) (t : FlumeSite) (a : Lent) (room : List ℕ) {n m p q i j : ℕ} {k l : List ℕ}
    → FlumeWriteTold s g t a room n p i k → FlumeWriteTold s g t a room m q j l → (n ≡ m) × (p ≡ q) × (i ≡ j) × (k ≡ l)
write-unique s g t a room x y =
    (x.number_is ∙ sym y.number_is, x.place_is ∙ sym y.place_is, x.bytes-are ∙ sym y.bytes-are, x.room-is ∙ sym y.room-is)
