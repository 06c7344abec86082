-- Unique: no second number, place or value, and no second content of a lent slice, fits what an exported call promises. Assumes nothing.
use mathlib.Core.Path.{◌≡◌, sym, ◌∙◌}
use mathlib.Core.Bool.{Bool}
use Prim.Native.Nat.{ℕ}
use lib.IntN.{ℤ}
use Rattle.grid.specs.declared.Sides.{Sides}
use Rattle.grid.specs.State.{Lent}
use Rattle.index.specs.Held.{Held}
use Rattle.hostset.specs.Promise.{CheckTold, LoadTold, ActDone}

pub check-unique : (s : Sides) (a : Lent) {n m p q : ℕ} → CheckTold s a n p → CheckTold s a m q → (n ≡ m) × (p ≡ q)
check-unique s a x y = (x.number_is ∙ sym y.number_is, x.place_is ∙ sym y.place_is)

pub load-unique : (s : Sides) (a : Held) {n m p q : ℕ} → LoadTold s a n p → LoadTold s a m q → (n ≡ m) × (p ≡ q)
load-unique s a x y = (x.number_is ∙ sym y.number_is, x.place_is ∙ sym y.place_is)

pub act-unique : (pour : Bool) (s : Sides) (c : ℕ) (amount : ℤ) (a : Lent) {n m p q : ℕ} {u v : ℤ} {x y : Lent} → ActDone pour s c amount a n p u x → ActDone pour s c amount a m q v y
    → (n ≡ m) × (p ≡ q) × (u ≡ v) × (x ≡ y)
act-unique pour s c amount a x y = (x.number_is ∙ sym y.number_is, x.place_is ∙ sym y.place_is, x.moved-is ∙ sym y.moved-is, x.set_is ∙ sym y.set_is)
