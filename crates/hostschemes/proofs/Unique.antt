-- Unique: no second number or place, and no second content of the slice that may be written, fits what an exported call promises. Assumes nothing.
use mathlib.Core.Path.{◌≡◌, sym, ◌∙◌}
use mathlib.Core.Bool.{Bool}
use mathlib.Core.List.{List}
use Prim.Native.Nat.{ℕ}
use Rattle.grid.specs.declared.Sides.{Sides}
use Rattle.grid.specs.State.{Lent}
use Rattle.hostschemes.specs.Promise.{JoinTold, PartTold, WallTold}

pub join-unique : (s : Sides) (map : List ℕ) (a : Lent) (grid : List ℕ) {n m p q : ℕ} {x y : List ℕ} → JoinTold s map a grid n p x → JoinTold s map a grid m q y → (n ≡ m) × (p ≡ q) × (x ≡ y)
join-unique s map a grid u v = (u.number_is ∙ sym v.number_is, u.place_is ∙ sym v.place_is, u.grid-is ∙ sym v.grid-is)

pub part-unique : (s : Sides) (grid own : List ℕ) {n m p q : ℕ} {x y : List ℕ} → PartTold s grid own n p x → PartTold s grid own m q y → (n ≡ m) × (p ≡ q) × (x ≡ y)
part-unique s grid own u v = (u.number_is ∙ sym v.number_is, u.place_is ∙ sym v.place_is, u.own_is ∙ sym v.own_is)

pub wall-unique : (add : Bool) (s : Sides) (c : ℕ) (map : List ℕ) (a b : Lent) {n m p q : ℕ} {x y : List ℕ} → WallTold add s c map a b n p x → WallTold add s c map a b m q y
    → (n ≡ m) × (p ≡ q) × (x ≡ y)
wall-unique add s c map a b u v = (u.number_is ∙ sym v.number_is, u.place_is ∙ sym v.place_is, u.map_is ∙ sym v.map_is)
