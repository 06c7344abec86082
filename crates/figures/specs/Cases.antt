-- The grids of the worked figures as lent sets: case T of document 01, a 3×3×3 grid, all wall but the centre, which is interface; and the two of P6.
-- Assumes nothing.
use Rattle.std.specs.Prelude.{ℕ, false, List, [], ◌∷◌, ◌++◌, ℤ, pos, negsuc, replicate, set}
use Rattle.std.proofs.lemmas.List.Edits.{sets}
use Rattle.whole.specs.Fold.{tab}
use Rattle.lattice.specs.Lattice.{d3q19}
use Rattle.lattice.specs.Body.{equilibrium_part}
use Rattle.lattice.specs.declared.Settings.{Settings}
use Rattle.grid.specs.declared.Sides.{Sides}
use Rattle.grid.specs.State.{Lent, lent}

abbrev pub sides : Sides
sides = record { nx = 3; ny = 3; nz = 3 }

-- p 1024, and gravity straight down
abbrev pub settings : ℤ → Settings
settings gz = record { p = pos 1024; gx = pos 0; gy = pos 0; gz = gz; turbulent = false }

abbrev pub falling : Settings
falling = settings (negsuc 1023)

-- the centre with the parts ps, mass 294,912 and fill 32,768
abbrev pub single : List ℤ → Lent
single ps = lent (set (replicate 27 3) 13 1) (sets (replicate 513 (pos 0)) 247 ps) (set (replicate 27 (pos 0)) 13 (pos 294912)) (set (replicate 27 0) 13 32768) (pos 0 ∷ [])

-- at rest: 196,608, 32,768, 16,384
abbrev pub rest : List ℤ
rest =
    pos 196608
    ∷ pos 32768 ∷ pos 32768 ∷ pos 32768 ∷ pos 32768 ∷ pos 32768 ∷ pos 32768
    ∷ pos 16384 ∷ pos 16384 ∷ pos 16384 ∷ pos 16384
    ∷ pos 16384 ∷ pos 16384 ∷ pos 16384 ∷ pos 16384
    ∷ pos 16384 ∷ pos 16384 ∷ pos 16384 ∷ pos 16384
    ∷ []

-- after one step: part 5 is 32,673, part 6 is 32,864, z up and weight 1 16,337, z down 16,432, part 0 196,603
abbrev pub fallen : List ℤ
fallen =
    pos 196603
    ∷ pos 32768 ∷ pos 32768 ∷ pos 32768 ∷ pos 32768 ∷ pos 32673 ∷ pos 32864
    ∷ pos 16384 ∷ pos 16384 ∷ pos 16384 ∷ pos 16384
    ∷ pos 16337 ∷ pos 16432 ∷ pos 16432 ∷ pos 16337
    ∷ pos 16337 ∷ pos 16432 ∷ pos 16432 ∷ pos 16337
    ∷ []

-- case T, and a second set and marks of the right lengths
abbrev pub case_t : Lent
case_t = single rest

abbrev pub marks : List ℕ
marks = replicate 27 7

-- case T with another flag at its centre
abbrev pub flagged : ℕ → Lent
flagged f = lent (set (replicate 27 3) 13 f) case_t.parts case_t.masses case_t.fills case_t.carry

-- ---- P6: without gravity

abbrev pub calm : Settings
calm = settings (pos 0)

-- 5×3×3: cells 21, 22, 23 interface, at stage 5's equilibrium without momentum
abbrev pub row_sides : Sides
row_sides = record { nx = 5; ny = 3; nz = 3 }

abbrev still : ℤ → List ℤ
still ρ = tab 19 (equilibrium_part d3q19 ρ (record { x = pos 0; y = pos 0; z = pos 0 }))

abbrev pub row : Lent
row =
    lent (sets (replicate 45 3) 21 (1 ∷ 1 ∷ 1 ∷ []))
    (sets (replicate 855 (pos 0)) 399 (still (pos 600000) ++ still (pos 589824) ++ still (pos 580000)))
    (sets (replicate 45 (pos 0)) 21 (pos 500000 ∷ pos 300000 ∷ pos 100000 ∷ []))
    (sets (replicate 45 0) 21 (54613 ∷ 33333 ∷ 11299 ∷ []))
    (pos 0 ∷ [])

-- 4×4×3: cells 21, 22 and 25, 26 interface, at rest as in case T
abbrev pub pool_sides : Sides
pool_sides = record { nx = 4; ny = 4; nz = 3 }

abbrev pub pool : Lent
pool =
    lent (sets (replicate 48 3) 21 (1 ∷ 1 ∷ 3 ∷ 3 ∷ 1 ∷ 1 ∷ []))
    (sets (replicate 912 (pos 0)) 399 (rest ++ rest ++ replicate 38 (pos 0) ++ rest ++ rest))
    (sets (replicate 48 (pos 0)) 21 (pos 591424 ∷ pos 147456 ∷ pos 0 ∷ pos 0 ∷ pos 442368 ∷ pos 294912 ∷ []))
    (sets (replicate 48 0) 21 (65536 ∷ 16384 ∷ 0 ∷ 0 ∷ 49152 ∷ 32768 ∷ []))
    (pos 0 ∷ [])
