-- What a call answers: done, or a refusal; document 01's number and place of each refusal. Assumes nothing.
use Rattle.std.specs.Prelude.{ℕ, Bool, true, false, Result, Ok, Err}
use Rattle.grid.specs.declared.refusals.Refusal.{Refusal}
use Rattle.grid.specs.declared.refusals.Refusal.TheVariants.{BadSides, BadLength, BadSetting, BadFlag, BadLayer, BadState, BadFlow, BadNext, BadSteps, BadEnd, BadCount, BadRoom, Outside, BadIndex, NotInterface, BadAmount, BadChange, InTheWay, BadHeader, BadRow, BadPools, BadList, BadChainage}

abbrev pub Answer : Type 0
Answer = Result (Unit {0}) Refusal

abbrev pub Done : Answer
Done = Ok tt

-- the paper's number of a refusal, and the place beside it, 0 where the paper names none
abbrev pub refusal_number : Refusal → ℕ
refusal_number BadSides = 1
refusal_number BadLength = 2
refusal_number (BadSetting _) = 3
refusal_number (BadFlag _) = 4
refusal_number (BadLayer _) = 5
refusal_number (BadState _) = 6
refusal_number (BadFlow _) = 7
refusal_number (BadNext _) = 8
refusal_number BadSteps = 9
refusal_number (BadEnd _) = 10
refusal_number (BadCount _) = 11
refusal_number (BadRoom _) = 12
refusal_number Outside = 13
refusal_number BadIndex = 14
refusal_number (NotInterface _) = 15
refusal_number BadAmount = 16
refusal_number (BadChange _) = 17
refusal_number (InTheWay _) = 18
refusal_number (BadHeader _) = 19
refusal_number (BadRow _) = 20
refusal_number (BadPools _) = 21
refusal_number BadList = 22
refusal_number (BadChainage _) = 23

abbrev pub refusal_place : Refusal → ℕ
refusal_place BadSides = 0
refusal_place BadLength = 0
refusal_place (BadSetting place) = place
refusal_place (BadFlag place) = place
refusal_place (BadLayer place) = place
refusal_place (BadState place) = place
refusal_place (BadFlow place) = place
refusal_place (BadNext place) = place
refusal_place BadSteps = 0
refusal_place (BadEnd place) = place
refusal_place (BadCount place) = place
refusal_place (BadRoom place) = place
refusal_place Outside = 0
refusal_place BadIndex = 0
refusal_place (NotInterface place) = place
refusal_place BadAmount = 0
refusal_place (BadChange place) = place
refusal_place (InTheWay place) = place
refusal_place (BadHeader place) = place
refusal_place (BadRow place) = place
refusal_place (BadPools place) = place
refusal_place BadList = 0
refusal_place (BadChainage place) = place

-- 7 and 8, the refusals that come when the passes have begun to write
abbrev pub late : Refusal → Bool
late BadSides = false
late BadLength = false
late (BadSetting _) = false
late (BadFlag _) = false
late (BadLayer _) = false
late (BadState _) = false
late (BadFlow _) = true
late (BadNext _) = true
late BadSteps = false
late (BadEnd _) = false
late (BadCount _) = false
late (BadRoom _) = false
late Outside = false
late BadIndex = false
late (NotInterface _) = false
late BadAmount = false
late (BadChange _) = false
late (InTheWay _) = false
late (BadHeader _) = false
late (BadRow _) = false
late (BadPools _) = false
late BadList = false
late (BadChainage _) = false
