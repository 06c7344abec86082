-- Unique: no second answer, and no second content of a lent slice, fits what the flume's reader and writer promise. Assumes nothing.
use mathlib.Core.Path.{◌≡◌, sym, ◌∙◌}
use mathlib.Core.List.{List}
use Prim.Native.Nat.{ℕ}
use lib.IntN.{ℤ}
use denote.Ref.{Bor}
use Rattle.grid.specs.State.{Lent}
use Rattle.flume.specs.declared.FlumeSides.{FlumeSides}
use Rattle.flume.specs.declared.FlumeSettings.{FlumeSettings}
use Rattle.record.specs.Writing.{Written}
use Rattle.flumerecord.specs.declared.FlumeSite.{FlumeSite}
use Rattle.flumerecord.specs.declared.FlumeHead.{FlumeHead}
use Rattle.flumerecord.specs.Promise.{FlumeRead, FlumeHanded, FlumeWrote}

pub read-unique : (r : List ℕ) (a : Lent) {h k : FlumeHead} {p q m n : List ℤ} {f g : List ℕ} {c d : List ℤ}
    → FlumeRead r a h p m f c → FlumeRead r a k q n g d → (h ≡ k) × (p ≡ q) × (m ≡ n) × (f ≡ g) × (c ≡ d)
read-unique r a x y =
    (x.head-is ∙ sym y.head-is, x.parts_are ∙ sym y.parts_are, x.masses-are ∙ sym y.masses-are, x.fills-are ∙ sym y.fills-are, x.carry-is ∙ sym y.carry-is)

pub handed-unique : (s : Bor (List ℕ)) (a : Lent) {r q : Bor (List ℕ)} → FlumeHanded s a r → FlumeHanded s a q → (r.now ≡ q.now) × (r.ref_ptr.0 ≡ q.ref_ptr.0) × (r.ref_ptr.1 ≡ q.ref_ptr.1)
handed-unique s a x y = (x.flags-are ∙ sym y.flags-are, x.block ∙ sym y.block, x.place ∙ sym y.place)

pub write-unique : (s : FlumeSides) (g : FlumeSettings) (t : FlumeSite) (a : Lent) (room : List ℕ) {w v : Written} {x y : List ℕ}
    → FlumeWrote s g t a room w x → FlumeWrote s g t a room v y → (w ≡ v) × (x ≡ y)
write-unique s g t a room p q = (p.answer-is ∙ sym q.answer-is, p.room-is ∙ sym q.room-is)
