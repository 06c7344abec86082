-- From the writer's own promise to the exported call's: number and place of the answer, the rest as it stands. Assumes nothing.
use mathlib.Core.Path.{◌≡◌, ap, ◌∙◌, subst}
use mathlib.Core.List.{List}
use Prim.Native.Nat.{ℕ}
use lib.IntN.{ℤ}
use mir.Syntax.{w64}
use mir.Val.{to_z, of_z, SFits}
use mir.ValLaws.{to_z-of_z}
use Rattle.grid.specs.declared.Sides.{Sides}
use Rattle.grid.specs.State.{Lent}
use Rattle.record.specs.Writing.{Written, written_number, written_place, written_bytes}
use Rattle.depths.specs.declared.Corner.{Corner}
use Rattle.depths.specs.Outcome.{Wrote}
use Rattle.hostheights.specs.Depths.{corner_of, DepthsTold}

-- a signed number that passed a struct is what it was, and so is the corner
pub corner-back : (e x y : ℤ) → SFits w64 e → SFits w64 x → SFits w64 y → corner_of (to_z w64 (of_z w64 e)) (to_z w64 (of_z w64 x)) (to_z w64 (of_z w64 y)) ≡ corner_of e x y
corner-back e x y he hx hy = λ i. corner_of (to_z-of_z w64 e he i) (to_z-of_z w64 x hx i) (to_z-of_z w64 y hy i)

pub depths-told : {s : Sides} {t u : Corner} {a : Lent} {room : List ℕ} {w : Written} {number place bytes : ℕ} {after : List ℕ}
    → u ≡ t → Wrote s u a room w after → number ≡ written_number w → place ≡ written_place w → bytes ≡ written_bytes w → DepthsTold s t a room number place bytes after
depths-told {s} {t} {u} {a} {room} {w} {number} {place} {bytes} {after} e h n p b =
    subst (λ (x : Corner). DepthsTold s x a room number place bytes after) e
    (record {
      number_is = n ∙ ap written_number h.answer-is;
      place_is = p ∙ ap written_place h.answer-is;
      bytes-are = b ∙ ap written_bytes h.answer-is;
      room-is = h.room-is;
    })
