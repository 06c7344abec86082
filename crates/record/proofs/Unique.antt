-- Unique: no second answer, and no second content of a lent slice, fits what reader and writer promise. Assumes nothing.
use mathlib.Core.Path.{◌≡◌, sym, ◌∙◌}
use mathlib.Core.List.{List}
use Prim.Native.Nat.{ℕ}
use lib.IntN.{ℤ}
use denote.Ref.{Bor}
use Rattle.lattice.specs.declared.Settings.{Settings}
use Rattle.grid.specs.declared.Sides.{Sides}
use Rattle.grid.specs.State.{Lent}
use Rattle.record.specs.declared.Site.{Site}
use Rattle.record.specs.declared.Head.{Head}
use Rattle.record.specs.declared.Span.{Span}
use Rattle.record.specs.Writing.{Written}
use Rattle.record.specs.Promise.{Read, Wrote, Own}

pub read-unique : (r : List ℕ) (a : Lent) {h k : Head} {p q m n : List ℤ} {f g : List ℕ} {c d : List ℤ}
    → Read r a h p m f c → Read r a k q n g d → (h ≡ k) × (p ≡ q) × (m ≡ n) × (f ≡ g) × (c ≡ d)
read-unique r a x y =
    (x.head-is ∙ sym y.head-is, x.parts_are ∙ sym y.parts_are, x.masses-are ∙ sym y.masses-are, x.fills-are ∙ sym y.fills-are, x.carry-is ∙ sym y.carry-is)

pub write-unique : (s : Sides) (g : Settings) (t : Site) (a : Lent) (room : List ℕ) {w v : Written} {x y : List ℕ}
    → Wrote s g t a room w x → Wrote s g t a room v y → (w ≡ v) × (x ≡ y)
write-unique s g t a room p q = (p.answer-is ∙ sym q.answer-is, p.room-is ∙ sym q.room-is)

-- the part: its bytes, its block and its place
pub own-unique : (s : Bor (List ℕ)) (p : Span) {r q : Bor (List ℕ)} → Own s p r → Own s p q → (r.now ≡ q.now) × (r.ref_ptr.0 ≡ q.ref_ptr.0) × (r.ref_ptr.1 ≡ q.ref_ptr.1)
own-unique s p x y = (x.bytes ∙ sym y.bytes, x.block ∙ sym y.block, x.place ∙ sym y.place)
