-- Unique: no second answer, and no second content of a lent slice, fits what the run promises. Assumes nothing.
use mathlib.Core.Path.{◌≡◌, sym, ◌∙◌}
use mathlib.Core.List.{List}
use Prim.Native.Nat.{ℕ}
use Rattle.lattice.specs.declared.Settings.{Settings}
use Rattle.grid.specs.declared.Sides.{Sides}
use Rattle.grid.specs.Answer.{Answer}
use Rattle.index.specs.Held.{Held}
use Rattle.runs.specs.Promise.{RanTo}

pub run-unique : (steps : ℕ) (s : Sides) (g : Settings) (a b : Held) (marks : List ℕ) {i j : ℕ} {r t : Answer} {u v x y : Held} {m n : List ℕ}
    → RanTo steps s g a b marks i r u x m → RanTo steps s g a b marks j t v y n → (i ≡ j) × (r ≡ t) × (u ≡ v) × (x ≡ y) × (m ≡ n)
run-unique steps s g a b marks p q =
    (p.count-is ∙ sym q.count-is, p.answer-is ∙ sym q.answer-is, p.first-is ∙ sym q.first-is, p.second_is ∙ sym q.second_is, p.marks-are ∙ sym q.marks-are)
