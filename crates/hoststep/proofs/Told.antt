-- From a layer's own promise to the exported call's: number and place of the answer, the rest as it stands. Assumes nothing.
use mathlib.Core.Path.{◌≡◌, ap, ◌∙◌, subst}
use mathlib.Core.List.{List}
use Prim.Native.Nat.{ℕ}
use Rattle.lattice.specs.declared.Settings.{Settings}
use Rattle.grid.specs.declared.Sides.{Sides}
use Rattle.grid.specs.Answer.{Answer}
use Rattle.grid.specs.Outcome.{number_of, place_of}
use Rattle.index.specs.Held.{Held}
use Rattle.calls.specs.Promise.{Stepped}
use Rattle.runs.specs.Promise.{RanTo}
use Rattle.hoststep.specs.Promise.{StepTold, RunTold}

-- the settings k that the layer was given are the call's own, g
pub step-told : {s : Sides} {g k : Settings} {a b : Held} {marks : List ℕ} {answer : Answer} {number place : ℕ} {second : Held} {after : List ℕ}
    → k ≡ g → Stepped s k a b marks answer second after → number ≡ number_of answer → place ≡ place_of answer
    → StepTold s g a b marks number place second after
step-told {s} {a = a} {b = b} {marks = marks} {number = number} {place = place} {second = second} {after = after} e h n p =
    subst (λ (x : Settings). StepTold s x a b marks number place second after) e
    (record { number_is = n ∙ ap number_of h.answer-is; place_is = p ∙ ap place_of h.answer-is; second_is = h.second_is; marks-are = h.marks-are })

pub run-told : {steps : ℕ} {s : Sides} {g k : Settings} {a b : Held} {marks : List ℕ} {count : ℕ} {answer : Answer} {number place : ℕ} {first second : Held} {after : List ℕ}
    → k ≡ g → RanTo steps s k a b marks count answer first second after → number ≡ number_of answer → place ≡ place_of answer
    → RunTold steps s g a b marks count number place first second after
run-told {steps} {s} {a = a} {b = b} {marks = marks} {count = count} {number = number} {place = place} {first = first} {second = second} {after = after} e h n p =
    subst (λ (x : Settings). RunTold steps s x a b marks count number place first second after) e
    (record { count-is = h.count-is; number_is = n ∙ ap number_of h.answer-is; place_is = p ∙ ap place_of h.answer-is; first-is = h.first-is; second_is = h.second_is; marks-are = h.marks-are })
