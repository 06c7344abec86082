-- From a layer's own promise to the exported call's: number and place of the answer, the rest as it stands. Assumes nothing.
use mathlib.Core.Path.{◌≡◌, ap, ◌∙◌, subst}
use mathlib.Core.Bool.{Bool}
use Prim.Native.Nat.{ℕ}
use lib.IntN.{ℤ}
use Rattle.grid.specs.declared.Sides.{Sides}
use Rattle.grid.specs.State.{Lent}
use Rattle.pumps.specs.Acts.{Acted}
use Rattle.pumps.specs.Acts.{acted_number, acted_place, acted_moved, ActTold}
use Rattle.hostset.specs.Promise.{ActDone}

-- the amount that the act was given is the call's own
pub act-told : {pour : Bool} {s : Sides} {c : ℕ} {amount k : ℤ} {a : Lent} {r : Acted} {number place : ℕ} {moved : ℤ} {after : Lent}
    → k ≡ amount → ActTold pour s c k a r after → number ≡ acted_number r → place ≡ acted_place r → moved ≡ acted_moved r → ActDone pour s c amount a number place moved after
act-told {pour} {s} {c} {a = a} {number = number} {place = place} {moved = moved} {after = after} e h n p m =
    subst (λ (x : ℤ). ActDone pour s c x a number place moved after) e
    (record { number_is = n ∙ ap acted_number h.answer-is; place_is = p ∙ ap acted_place h.answer-is; moved-is = m ∙ ap acted_moved h.answer-is; set_is = h.set_is })
