-- Unique: no second answer, and no second content of the slice that may be written, fits what join and part promise. Assumes nothing.
use mathlib.Core.Path.{◌≡◌, sym, ◌∙◌}
use mathlib.Core.List.{List}
use Prim.Native.Nat.{ℕ}
use Rattle.grid.specs.declared.Sides.{Sides}
use Rattle.grid.specs.Answer.{Answer}
use Rattle.grid.specs.State.{Lent}
use Rattle.schemes.specs.Promise.{Joined, Parted}

pub join-unique : (s : Sides) (map : List ℕ) (a : Lent) (grid : List ℕ) {r t : Answer} {x y : List ℕ} → Joined s map a grid r x → Joined s map a grid t y → (r ≡ t) × (x ≡ y)
join-unique s map a grid p q = (p.answer-is ∙ sym q.answer-is, p.grid-is ∙ sym q.grid-is)

pub part-unique : (s : Sides) (grid own : List ℕ) {r t : Answer} {x y : List ℕ} → Parted s grid own r x → Parted s grid own t y → (r ≡ t) × (x ≡ y)
part-unique s grid own p q = (p.answer-is ∙ sym q.answer-is, p.own_is ∙ sym q.own_is)
