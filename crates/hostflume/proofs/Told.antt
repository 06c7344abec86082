-- From the flume's own promise to the exported call's: number and place of the answer, the rest as it stands. Assumes nothing.
use mathlib.Core.Path.{◌≡◌, ap, ◌∙◌, subst}
use mathlib.Core.Bool.{Bool}
use mathlib.Core.List.{List}
use Prim.Native.Nat.{ℕ}
use lib.IntN.{ℤ}
use mir.Syntax.{w64}
use mir.Val.{to_z, of_z, SFits}
use mir.ValLaws.{to_z-of_z}
use Rattle.grid.specs.Answer.{Answer}
use Rattle.grid.specs.State.{Lent}
use Rattle.grid.specs.Outcome.{number_of, place_of}
use Rattle.flume.specs.declared.FlumeSides.{FlumeSides}
use Rattle.flume.specs.declared.FlumeSettings.{FlumeSettings}
use Rattle.flume.specs.Promise.{FlumeStepped, FlumeRanTo}
use Rattle.hostflume.specs.Promise.{flume_settings_in, StepTold, RunTold}

-- the settings k that the flume was given are the call's own, g
pub step-told : {s : FlumeSides} {g k : FlumeSettings} {a b : Lent} {marks : List ℕ} {answer : Answer} {number place : ℕ} {second : Lent} {after : List ℕ}
    → k ≡ g → FlumeStepped s k a b marks answer second after → number ≡ number_of answer → place ≡ place_of answer
    → StepTold s g a b marks number place second after
step-told {s} {a = a} {b = b} {marks = marks} {number = number} {place = place} {second = second} {after = after} e h n p =
    subst (λ (x : FlumeSettings). StepTold s x a b marks number place second after) e
    (record { number_is = n ∙ ap number_of h.answer-is; place_is = p ∙ ap place_of h.answer-is; second_is = h.second_is; marks-are = h.marks-are })

pub run-told : {steps : ℕ} {s : FlumeSides} {g k : FlumeSettings} {a b : Lent} {marks : List ℕ} {count : ℕ} {answer : Answer} {number place : ℕ} {first second : Lent} {after : List ℕ}
    → k ≡ g → FlumeRanTo steps s k a b marks count answer first second after → number ≡ number_of answer → place ≡ place_of answer
    → RunTold steps s g a b marks count number place first second after
run-told {steps} {s} {a = a} {b = b} {marks = marks} {count = count} {number = number} {place = place} {first = first} {second = second} {after = after} e h n p =
    subst (λ (x : FlumeSettings). RunTold steps s x a b marks count number place first second after) e
    (record { count-is = h.count-is; number_is = n ∙ ap number_of h.answer-is; place_is = p ∙ ap place_of h.answer-is; first-is = h.first-is; second_is = h.second_is; marks-are = h.marks-are })

-- a signed number that passed a struct is what it was, and so is the struct
pub settings-back : (turbulent : Bool) (p x z : ℤ) → SFits w64 p → SFits w64 x → SFits w64 z
    → flume_settings_in turbulent (to_z w64 (of_z w64 p)) (to_z w64 (of_z w64 x)) (to_z w64 (of_z w64 z)) ≡ flume_settings_in turbulent p x z
settings-back turbulent p x z hp hx hz = λ i. flume_settings_in turbulent (to_z-of_z w64 p hp i) (to_z-of_z w64 x hx i) (to_z-of_z w64 z hz i)
