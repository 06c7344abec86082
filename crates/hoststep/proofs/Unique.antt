-- Unique: no second number, place or value, and no second content of a lent slice, fits what an exported call promises. Assumes nothing.
use mathlib.Core.Path.{◌≡◌, sym, ◌∙◌}
use mathlib.Core.List.{List}
use Prim.Native.Nat.{ℕ}
use Rattle.lattice.specs.declared.Settings.{Settings}
use Rattle.grid.specs.declared.Sides.{Sides}
use Rattle.index.specs.Held.{Held}
use Rattle.hoststep.specs.Promise.{StepTold, RunTold}

pub step-unique : (s : Sides) (g : Settings) (a b : Held) (marks : List ℕ) {n m p q : ℕ} {u v : Held} {k l : List ℕ}
    → StepTold s g a b marks n p u k → StepTold s g a b marks m q v l → (n ≡ m) × (p ≡ q) × (u ≡ v) × (k ≡ l)
step-unique s g a b marks x y =
    (x.number_is ∙ sym y.number_is, x.place_is ∙ sym y.place_is, x.second_is ∙ sym y.second_is, x.marks-are ∙ sym y.marks-are)

pub run-unique : (steps : ℕ) (s : Sides) (g : Settings) (a b : Held) (marks : List ℕ) {i j n m p q : ℕ} {d e u v : Held} {k l : List ℕ}
    → RunTold steps s g a b marks i n p d u k → RunTold steps s g a b marks j m q e v l
    → (i ≡ j) × (n ≡ m) × (p ≡ q) × (d ≡ e) × (u ≡ v) × (k ≡ l)
run-unique steps s g a b marks x y =
    (x.count-is ∙ sym y.count-is, x.number_is ∙ sym y.number_is, x.place_is ∙ sym y.place_is, x.first-is ∙ sym y.first-is, x.second_is ∙ sym y.second_is, x.marks-are ∙ sym y.marks-are)
