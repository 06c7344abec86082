-- Unique: no second answer, and no second content of the map, fits what the wall changes promise. Assumes nothing.
use mathlib.Core.Path.{◌≡◌, sym, ◌∙◌}
use mathlib.Core.Bool.{Bool}
use mathlib.Core.List.{List}
use Prim.Native.Nat.{ℕ}
use Rattle.grid.specs.declared.Sides.{Sides}
use Rattle.grid.specs.Answer.{Answer}
use Rattle.grid.specs.State.{Lent}
use Rattle.walls.specs.Promise.{Changed}

pub change-unique : (s : Sides) (map : List ℕ) (a b : Lent) (add : Bool) (c : ℕ) {r t : Answer} {x y : List ℕ} → Changed s map a b add c r x → Changed s map a b add c t y → (r ≡ t) × (x ≡ y)
change-unique s map a b add c p q = (p.answer-is ∙ sym q.answer-is, p.map_is ∙ sym q.map_is)
