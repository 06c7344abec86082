-- Unique: no second number, place or count, and no second content of a lent slice, fits what an exported call promises. Assumes nothing.
use mathlib.Core.Path.{◌≡◌, sym, ◌∙◌}
use mathlib.Core.List.{List}
use Prim.Native.Nat.{ℕ}
use Rattle.grid.specs.State.{Lent}
use Rattle.flume.specs.declared.FlumeSides.{FlumeSides}
use Rattle.flume.specs.declared.FlumeSettings.{FlumeSettings}
use Rattle.hostflume.specs.Promise.{CheckTold, StepTold, RunTold}

pub check-unique : (s : FlumeSides) (a : Lent) {n m p q : ℕ} → CheckTold s a n p → CheckTold s a m q → (n ≡ m) × (p ≡ q)
check-unique s a x y = (x.number_is ∙ sym y.number_is, x.place_is ∙ sym y.place_is)

pub step-unique : (s : FlumeSides) (g : FlumeSettings) (a b : Lent) (marks : List ℕ) {n m p q : ℕ} {u v : Lent} {k l : List ℕ}
    → StepTold s g a b marks n p u k → StepTold s g a b marks m q v l → (n ≡ m) × (p ≡ q) × (u ≡ v) × (k ≡ l)
step-unique s g a b marks x y =
    (x.number_is ∙ sym y.number_is, x.place_is ∙ sym y.place_is, x.second_is ∙ sym y.second_is, x.marks-are ∙ sym y.marks-are)

pub run-unique : (steps : ℕ) (s : FlumeSides) (g : FlumeSettings) (a b : Lent) (marks : List ℕ) {i j n m p q : ℕ} {d e u v : Lent} {k l : List ℕ}
    → RunTold steps s g a b marks i n p d u k → RunTold steps s g a b marks j m q e v l
    → (i ≡ j) × (n ≡ m) × (p ≡ q) × (d ≡ e) × (u ≡ v) × (k ≡ l)
run-unique steps s g a b marks x y =
    (x.count-is ∙ sym y.count-is, x.number_is ∙ sym y.number_is, x.place_is ∙ sym y.place_is, x.first-is ∙ sym y.first-is, x.second_is ∙ sym y.second_is, x.marks-are ∙ sym y.marks-are)
