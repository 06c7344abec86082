-- Unique: no second answer, and no second content of a lent slice, fits what check, step and run promise. Assumes nothing.
use mathlib.Core.Path.{◌≡◌, sym, ◌∙◌}
use mathlib.Core.List.{List}
use Prim.Native.Nat.{ℕ}
use Rattle.lattice.specs.declared.Settings.{Settings}
use Rattle.grid.specs.declared.Sides.{Sides}
use Rattle.grid.specs.Answer.{Answer}
use Rattle.grid.specs.State.{Lent}
use Rattle.grid.specs.Outcome.{check_answer}
use Rattle.grid.specs.Promise.{Stepped, RanTo}

pub check-unique : (s : Sides) (a : Lent) {r t : Answer} → r ≡ check_answer s a → t ≡ check_answer s a → r ≡ t
check-unique s a p q = p ∙ sym q

pub step-unique : (s : Sides) (g : Settings) (a b : Lent) (marks : List ℕ) {r t : Answer} {x y : Lent} {m n : List ℕ}
    → Stepped s g a b marks r x m → Stepped s g a b marks t y n → (r ≡ t) × (x ≡ y) × (m ≡ n)
step-unique s g a b marks p q = (p.answer-is ∙ sym q.answer-is, p.second_is ∙ sym q.second_is, p.marks-are ∙ sym q.marks-are)

pub run-unique : (steps : ℕ) (s : Sides) (g : Settings) (a b : Lent) (marks : List ℕ) {i j : ℕ} {r t : Answer} {u v x y : Lent} {m n : List ℕ}
    → RanTo steps s g a b marks i r u x m → RanTo steps s g a b marks j t v y n → (i ≡ j) × (r ≡ t) × (u ≡ v) × (x ≡ y) × (m ≡ n)
run-unique steps s g a b marks p q =
    (p.count-is ∙ sym q.count-is, p.answer-is ∙ sym q.answer-is, p.first-is ∙ sym q.first-is, p.second_is ∙ sym q.second_is, p.marks-are ∙ sym q.marks-are)
