-- Unique: no second answer, and no second content of a lent slice, fits what the reader promises. Assumes nothing.
use mathlib.Core.Path.{◌≡◌, sym, ◌∙◌}
use mathlib.Core.List.{List}
use Prim.Native.Nat.{ℕ}
use lib.IntN.{ℤ}
use Rattle.record.specs.declared.Head.{Head}
use Rattle.index.specs.Index.{Index}
use Rattle.index.specs.Held.{Held}
use Rattle.intake.specs.Promise.{Read}

pub read-unique : (r : List ℕ) (a : Held) {h k : Head} {p q m n : List ℤ} {f g : List ℕ} {c d : List ℤ} {x y : Index}
    → Read r a h p m f c x → Read r a k q n g d y → (h ≡ k) × (p ≡ q) × (m ≡ n) × (f ≡ g) × (c ≡ d) × (x ≡ y)
read-unique r a s t =
    (s.head-is ∙ sym t.head-is, s.parts_are ∙ sym t.parts_are, s.masses-are ∙ sym t.masses-are, s.fills-are ∙ sym t.fills-are, s.carry-is ∙ sym t.carry-is, s.index_is ∙ sym t.index_is)
