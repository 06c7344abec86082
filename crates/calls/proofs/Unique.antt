-- Unique: no second answer, and no second content of a lent slice, fits what the step promises. Assumes nothing.
use mathlib.Core.Path.{◌≡◌, sym, ◌∙◌}
use mathlib.Core.List.{List}
use Prim.Native.Nat.{ℕ}
use Rattle.lattice.specs.declared.Settings.{Settings}
use Rattle.grid.specs.declared.Sides.{Sides}
use Rattle.grid.specs.Answer.{Answer}
use Rattle.index.specs.Held.{Held}
use Rattle.calls.specs.Promise.{Stepped}

pub step-unique : (s : Sides) (g : Settings) (a b : Held) (marks : List ℕ) {r t : Answer} {x y : Held} {m n : List ℕ}
    → Stepped s g a b marks r x m → Stepped s g a b marks t y n → (r ≡ t) × (x ≡ y) × (m ≡ n)
step-unique s g a b marks p q = (p.answer-is ∙ sym q.answer-is, p.second_is ∙ sym q.second_is, p.marks-are ∙ sym q.marks-are)
