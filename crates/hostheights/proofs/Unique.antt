-- Unique: no second number, place or value, and no second content of a lent slice, fits what an exported call promises. Assumes nothing.
use mathlib.Core.Path.{◌≡◌, sym, ◌∙◌}
use mathlib.Core.List.{List}
use Prim.Native.Nat.{ℕ}
use lib.IntN.{ℤ}
use Rattle.lattice.specs.declared.Settings.{Settings}
use Rattle.grid.specs.declared.Sides.{Sides}
use Rattle.grid.specs.State.{Lent}
use Rattle.index.specs.Index.{Index}
use Rattle.depths.specs.declared.Corner.{Corner}
use Rattle.hostheights.specs.Depths.{DepthsTold}
use Rattle.hostheights.specs.Invert.{InvertTold}

pub invert-unique : (text : List ℕ) (nz : ℕ) (oz : ℤ) (g : Settings) (a : Lent) (x : Index) {n n' p p' nx nx' ny ny' : ℕ} {e e' ox ox' oy oy' : ℤ} {b b' : Lent} {y y' : Index}
    → InvertTold text nz oz g a x n p nx ny e ox oy b y → InvertTold text nz oz g a x n' p' nx' ny' e' ox' oy' b' y'
    → (n ≡ n') × (p ≡ p') × (nx ≡ nx') × (ny ≡ ny') × (e ≡ e') × (ox ≡ ox') × (oy ≡ oy') × (b ≡ b') × (y ≡ y')
invert-unique text nz oz g a x t u =
    (t.number_is ∙ sym u.number_is, t.place_is ∙ sym u.place_is, t.nx-is ∙ sym u.nx-is, t.ny-is ∙ sym u.ny-is, t.edge-is ∙ sym u.edge-is, t.ox-is ∙ sym u.ox-is, t.oy-is ∙ sym u.oy-is, t.set_is ∙ sym u.set_is, t.index_is ∙ sym u.index_is)

pub depths-unique : (s : Sides) (t : Corner) (a : Lent) (room : List ℕ) {n m p q i j : ℕ} {k l : List ℕ}
    → DepthsTold s t a room n p i k → DepthsTold s t a room m q j l → (n ≡ m) × (p ≡ q) × (i ≡ j) × (k ≡ l)
depths-unique s t a room x y =
    (x.number_is ∙ sym y.number_is, x.place_is ∙ sym y.place_is, x.bytes-are ∙ sym y.bytes-are, x.room-is ∙ sym y.room-is)
