-- From a layer's own promise to the exported call's: number and place of the answer, the rest as it stands. Assumes nothing.
use mathlib.Core.Path.{◌≡◌, ap, ◌∙◌, subst}
use mathlib.Core.List.{List}
use Prim.Native.Nat.{ℕ}
use lib.IntN.{ℤ}
use lib.Ieee.{Float}
use Rattle.grid.specs.declared.Sides.{Sides}
use Rattle.tunnel.specs.declared.Point.{Point}
use Rattle.tunnel.specs.Place as placing
use Rattle.tunnel.specs.Place.{Placed, placed_number, placed_place, cell_number}
use Rattle.profile.specs.declared.Frame.{Frame}
use Rattle.profile.specs.Profile.{survey}
use Rattle.profile.specs.Outcome.{Profiled, profiled_number, profiled_place, wet_of, deepest_of, Told}
use Rattle.hosttunnel.specs.Promise.{PlaceTold, ProfileTold}

-- and so are the edge, the origin and the point
pub place-told : {s : Sides} {edge e : ℤ} {origin o point q : Point} {r : Placed} {number place cell : ℕ}
    → e ≡ edge → o ≡ origin → q ≡ point → r ≡ placing.placing_of s e o q → number ≡ placed_number r → place ≡ placed_place r → cell ≡ cell_number r
    → PlaceTold s edge origin point number place cell
place-told {s} ee eo eq h n p c =
    let k = h ∙ (λ i. placing.placing_of s (ee i) (eo i) (eq i)) in
    record { number_is = n ∙ ap placed_number k; place_is = p ∙ ap placed_place k; cell-is = c ∙ ap cell_number k }

-- and so is the frame
pub profile-told : {f g : Frame} {flags fills : List ℕ} {points chainages : List ℤ} {kinds : List ℕ} {depths : List Float} {r : Profiled} {number place wet deepest : ℕ} {kinds_after : List ℕ} {depths_after : List Float}
    → g ≡ f → Told (survey g flags fills points) chainages kinds depths r kinds_after depths_after
    → number ≡ profiled_number r → place ≡ profiled_place r → wet ≡ wet_of r → deepest ≡ deepest_of r
    → ProfileTold (survey f flags fills points) chainages kinds depths number place wet deepest kinds_after depths_after
profile-told {flags = flags} {fills = fills} {points = points} {chainages = chainages} {kinds = kinds} {depths = depths} {number = number} {place = place} {wet = wet} {deepest = deepest} {kinds_after = ks} {depths_after = ds} e h n p w d =
    subst (λ (x : Frame). ProfileTold (survey x flags fills points) chainages kinds depths number place wet deepest ks ds) e
    (record {
      number_is = n ∙ ap profiled_number h.answer-is;
      place_is = p ∙ ap profiled_place h.answer-is;
      wet-is = w ∙ ap wet_of h.answer-is;
      deepest-is = d ∙ ap deepest_of h.answer-is;
      kinds-are = h.kinds-are;
      depths-are = h.depths-are;
    })
