-- Unique: no second number, place or value, and no second content of a lent slice, fits what an exported call promises. Assumes nothing.
use mathlib.Core.Path.{◌≡◌, sym, ◌∙◌}
use mathlib.Core.List.{List}
use Prim.Native.Nat.{ℕ}
use Rattle.grid.specs.declared.Sides.{Sides}
use Rattle.hostsurface.specs.Promise.{CountTold, NextTold}

pub count-unique : (s : Sides) (words : List ℕ) {n m p q i j : ℕ} → CountTold s words n p i → CountTold s words m q j → (n ≡ m) × (p ≡ q) × (i ≡ j)
count-unique s words x y = (x.number_is ∙ sym y.number_is, x.place_is ∙ sym y.place_is, x.cells_are ∙ sym y.cells_are)

pub next-unique : (s : Sides) (words : List ℕ) (start : ℕ) {n m p q k l i j r t : ℕ} → NextTold s words start n p k i r → NextTold s words start m q l j t
    → (n ≡ m) × (p ≡ q) × (k ≡ l) × (i ≡ j) × (r ≡ t)
next-unique s words start x y =
    (x.number_is ∙ sym y.number_is, x.place_is ∙ sym y.place_is, x.kind-is ∙ sym y.kind-is, x.cell-is ∙ sym y.cell-is, x.read_is ∙ sym y.read_is)
