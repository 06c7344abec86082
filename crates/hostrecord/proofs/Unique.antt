-- Unique: no second number, place or value, and no second content of a lent slice, fits what an exported call promises. Assumes nothing.
use mathlib.Core.Path.{◌≡◌, sym, ◌∙◌}
use mathlib.Core.List.{List}
use Prim.Native.Nat.{ℕ}
use lib.IntN.{ℤ}
use Rattle.lattice.specs.declared.Settings.{Settings}
use Rattle.grid.specs.declared.Sides.{Sides}
use Rattle.grid.specs.State.{Lent}
use Rattle.record.specs.declared.Site.{Site}
use Rattle.index.specs.Index.{Index}
use Rattle.index.specs.Held.{Held}
use Rattle.hostrecord.specs.Promise.{ReadTold, WriteTold}

pub read-unique : (r : List ℕ) (a : Held) {n m p q : ℕ} {s s' : Sides} {g g' : Settings} {t t' : Site} {f f' e e' : ℕ} {b b' c c' : List ℤ} {i i' : List ℕ} {k k' : List ℤ} {w w' : Index}
    → ReadTold r a n p s g t f e b c i k w → ReadTold r a m q s' g' t' f' e' b' c' i' k' w'
    → (n ≡ m) × (p ≡ q) × (s ≡ s') × (g ≡ g') × (t ≡ t') × (f ≡ f') × (e ≡ e') × (b ≡ b') × (c ≡ c') × (i ≡ i') × (k ≡ k') × (w ≡ w')
read-unique r a x y =
    (x.number_is ∙ sym y.number_is, x.place_is ∙ sym y.place_is, x.sides-are ∙ sym y.sides-are, x.settings-are ∙ sym y.settings-are, x.site-is ∙ sym y.site-is, x.from_is ∙ sym y.from_is, x.to_is ∙ sym y.to_is, x.parts_are ∙ sym y.parts_are, x.masses-are ∙ sym y.masses-are, x.fills-are ∙ sym y.fills-are, x.carry-is ∙ sym y.carry-is, x.index_is ∙ sym y.index_is)

pub write-unique : (s : Sides) (g : Settings) (t : Site) (a : Lent) (room : List ℕ) {n m p q i j : ℕ} {k l : List ℕ}
    → WriteTold s g t a room n p i k → WriteTold s g t a room m q j l → (n ≡ m) × (p ≡ q) × (i ≡ j) × (k ≡ l)
write-unique s g t a room x y =
    (x.number_is ∙ sym y.number_is, x.place_is ∙ sym y.place_is, x.bytes-are ∙ sym y.bytes-are, x.room-is ∙ sym y.room-is)
