-- The grids of the flume's worked figures as lent sets: case F of P3, a 3×3 flume, all wall but the centre, which is interface; and a 4×4 one whose inner
-- cells are interface at rest. Assumes nothing.
use Rattle.std.specs.Prelude.{ℕ, Bool, true, false, List, [], ◌∷◌, ◌++◌, ℤ, pos, negsuc, replicate, set}
use Rattle.std.proofs.lemmas.List.Edits.{sets}
use Rattle.grid.specs.State.{Lent, lent}
use Rattle.flume.specs.declared.FlumeSides.{FlumeSides}
use Rattle.flume.specs.declared.FlumeSettings.{FlumeSettings}

abbrev pub square : ℕ → FlumeSides
square n = record { nx = n; nz = n }

-- p 2037 without gravity, in either mode
abbrev pub quick : Bool → FlumeSettings
quick turbulent = record { p = pos 2037; gx = pos 0; gz = pos 0; turbulent = turbulent }

-- p 1024
abbrev pub pulled : ℤ → ℤ → FlumeSettings
pulled gx gz = record { p = pos 1024; gx = gx; gz = gz; turbulent = false }

abbrev pub falling : FlumeSettings
falling = pulled (pos 0) (negsuc 1023)

abbrev pub calm : FlumeSettings
calm = pulled (pos 0) (pos 0)

-- at rest: 262,144, 65,536, 16,384
abbrev pub rest : List ℤ
rest = pos 262144 ∷ pos 65536 ∷ pos 65536 ∷ pos 65536 ∷ pos 65536 ∷ pos 16384 ∷ pos 16384 ∷ pos 16384 ∷ pos 16384 ∷ []

-- after one step: part 3 is 65,345, part 4 is 65,728, parts 5 and 8 hold 16,337, parts 6 and 7 16,432, part 0 is 262,141
abbrev pub fallen : List ℤ
fallen = pos 262141 ∷ pos 65536 ∷ pos 65536 ∷ pos 65345 ∷ pos 65728 ∷ pos 16337 ∷ pos 16432 ∷ pos 16432 ∷ pos 16337 ∷ []

-- the centre with these parts, mass 294,912 and fill 32,768
abbrev pub single : List ℤ → Lent
single ps = lent (set (replicate 9 3) 4 1) (sets (replicate 81 (pos 0)) 36 ps) (set (replicate 9 (pos 0)) 4 (pos 294912)) (set (replicate 9 0) 4 32768) (pos 0 ∷ [])

abbrev pub case_f : Lent
case_f = single rest

-- case F's settings in the turbulent mode
abbrev pub falling_own : FlumeSettings
falling_own = record { p = pos 1024; gx = pos 0; gz = negsuc 1023; turbulent = true }

-- P10's case U in the flume: case F's grid with parts 1 and 2 at x, 3 and 4 at z
abbrev pub strained : ℤ → ℤ → Lent
strained x z = single (pos 262144 ∷ x ∷ x ∷ z ∷ z ∷ pos 16384 ∷ pos 16384 ∷ pos 16384 ∷ pos 16384 ∷ [])

abbrev pub marks : List ℕ
marks = replicate 9 7

-- case F with another flag at its centre
abbrev pub flagged : ℕ → Lent
flagged f = lent (set (replicate 9 3) 4 f) case_f.parts case_f.masses case_f.fills case_f.carry

-- no slices at all
abbrev pub nothing : Lent
nothing = lent [] [] [] [] []

-- 4×4: cells 5, 6, 9, 10 interface at rest
abbrev pub pool : Lent
pool =
    lent (sets (replicate 16 3) 5 (1 ∷ 1 ∷ 3 ∷ 3 ∷ 1 ∷ 1 ∷ []))
    (sets (replicate 144 (pos 0)) 45 (rest ++ rest ++ replicate 18 (pos 0) ++ rest ++ rest))
    (sets (replicate 16 (pos 0)) 5 (pos 591424 ∷ pos 147456 ∷ pos 0 ∷ pos 0 ∷ pos 442368 ∷ pos 294912 ∷ []))
    (sets (replicate 16 0) 5 (65536 ∷ 16384 ∷ 0 ∷ 0 ∷ 49152 ∷ 32768 ∷ []))
    (pos 0 ∷ [])
