-- Unique: no second head, and no second content of a lent slice, fits what the reader promises. Assumes nothing.
use mathlib.Core.Path.{◌≡◌, sym, ◌∙◌}
use mathlib.Core.List.{List}
use Prim.Native.Nat.{ℕ}
use lib.IntN.{ℤ}
use Rattle.lattice.specs.declared.Settings.{Settings}
use Rattle.grid.specs.State.{Lent}
use Rattle.record.specs.declared.Head.{Head}
use Rattle.index.specs.Index.{Index}
use Rattle.invert.specs.Outcome.{Inverted}

pub read-unique : (text : List ℕ) (nz : ℕ) (oz : ℤ) (g : Settings) (a : Lent) (x : Index) {h h' : Head} {b b' : Lent} {y y' : Index}
    → Inverted text nz oz g a x h b y → Inverted text nz oz g a x h' b' y' → (h ≡ h') × (b ≡ b') × (y ≡ y')
read-unique text nz oz g a x t u = (t.head-is ∙ sym u.head-is, t.set_is ∙ sym u.set_is, t.index_is ∙ sym u.index_is)
