-- What one designer does and what the map undergoes at the other's asking, without whether the own questions were granted: two histories that agree on
-- these may differ, but only from a refusal with 18 on that the one is given where the other is accepted. Assumes nothing.
use Rattle.std.specs.Prelude.{List, [], ◌∷◌, Bool, ℕ}
use Rattle.grid.specs.Answer.{Done}
use Rattle.isolation.specs.Deeds.{Deed, Reply, answered}
use Rattle.isolation.specs.History.{Seen, did, asked, changed}
use Rattle.grid.specs.declared.refusals.Refusal.TheVariants.{InTheWay}
use Rattle.std.specs.Prelude.{Err}

pub data Course : Type 0 where
  doing : Deed → Course
  asking : Bool → ℕ → Course
  undergoing : Bool → ℕ → Course

abbrev pub course : List Seen → List Course
course [] = []
course (did d ∷ e) = doing d ∷ course e
course (asked add c ok ∷ e) = asking add c ∷ course e
course (changed add c ∷ e) = undergoing add c ∷ course e

-- and whether they were granted, question by question
abbrev pub grants : List Seen → List Bool
grants [] = []
grants (did d ∷ e) = grants e
grants (asked add c ok ∷ e) = ok ∷ grants e
grants (changed add c ∷ e) = grants e

-- two lists of replies that are the same, one by one, to the end or until a question for a cell is accepted in the one and refused with 18 at that cell in
-- the other
pub data Until18 : List Reply → List Reply → Type 0 where
  end : Until18 [] []
  same : (x : Reply) {l m : List Reply} → Until18 l m → Until18 (x ∷ l) (x ∷ m)
  first-18 : (c : ℕ) (l m : List Reply) → Until18 (answered (Err (InTheWay c)) ∷ l) (answered Done ∷ m)
  second-18 : (c : ℕ) (l m : List Reply) → Until18 (answered Done ∷ l) (answered (Err (InTheWay c)) ∷ m)
