-- A refusal is told by its number and place and nothing is lost: they tell the refusal back, each by the number that document 01 gives it. Assumes nothing.
use Rattle.std.specs.Prelude.{◌≡◌, ℕ, cond, eqb}
use Rattle.std.proofs.Common.{refl}
use Rattle.grid.specs.declared.refusals.Refusal.{Refusal}
use Rattle.grid.specs.declared.refusals.Refusal.TheVariants.{BadSides, BadLength, BadSetting, BadFlag, BadLayer, BadState, BadFlow, BadNext, BadSteps, BadEnd, BadCount, BadRoom, Outside, BadIndex, NotInterface, BadAmount, BadChange, InTheWay, BadHeader, BadRow, BadPools, BadList, BadChainage}
use Rattle.grid.specs.Answer.{refusal_number, refusal_place}

-- document 01's refusal of a number, with its place
abbrev pub refusal_of : ℕ → ℕ → Refusal
refusal_of n p =
    cond (eqb n 1) BadSides
    (cond (eqb n 2) BadLength
    (cond (eqb n 3) (BadSetting p)
    (cond (eqb n 4) (BadFlag p)
    (cond (eqb n 5) (BadLayer p)
    (cond (eqb n 6) (BadState p)
    (cond (eqb n 7) (BadFlow p)
    (cond (eqb n 8) (BadNext p)
    (cond (eqb n 9) BadSteps
    (cond (eqb n 10) (BadEnd p)
    (cond (eqb n 11) (BadCount p)
    (cond (eqb n 12) (BadRoom p)
    (cond (eqb n 13) Outside
    (cond (eqb n 14) BadIndex
    (cond (eqb n 15) (NotInterface p)
    (cond (eqb n 16) BadAmount
    (cond (eqb n 17) (BadChange p)
    (cond (eqb n 18) (InTheWay p)
    (cond (eqb n 19) (BadHeader p)
    (cond (eqb n 20) (BadRow p)
    (cond (eqb n 21) (BadPools p)
    (cond (eqb n 22) BadList
    (BadChainage p))))))))))))))))))))))

pub told-back : (r : Refusal) → refusal_of (refusal_number r) (refusal_place r) ≡ r
told-back BadSides = refl
told-back BadLength = refl
told-back (BadSetting p) = refl
told-back (BadFlag p) = refl
told-back (BadLayer p) = refl
told-back (BadState p) = refl
told-back (BadFlow p) = refl
told-back (BadNext p) = refl
told-back BadSteps = refl
told-back (BadEnd p) = refl
told-back (BadCount p) = refl
told-back (BadRoom p) = refl
told-back Outside = refl
told-back BadIndex = refl
told-back (NotInterface p) = refl
told-back BadAmount = refl
told-back (BadChange p) = refl
told-back (InTheWay p) = refl
told-back (BadHeader p) = refl
told-back (BadRow p) = refl
told-back (BadPools p) = refl
told-back BadList = refl
told-back (BadChainage p) = refl
