-- The lakes of the pools' figures: 4×4×4, interface cells at rest in two opposite corners of the inner box, and with another cell between them; and
-- what the question is to tell of them, whole outcomes. Assumes nothing.
use Rattle.std.specs.Prelude.{Bool, true, false, ◌&&◌, ◌||◌, cond, List, [], ◌∷◌, ◌++◌, map, ℕ, eqb, ℤ, pos, negsuc, replicate, set}
use Rattle.std.proofs.lemmas.List.Edits.{sets}
use Rattle.whole.specs.Fold.{tab}
use Rattle.grid.specs.declared.Sides.{Sides}
use Rattle.grid.specs.State.{Lent, lent}
use Rattle.pools.specs.Outcome.{Told, Room, room, told_number, told_place, told_pools, pools_answer, pools_room}
use Rattle.figures.specs.Cases.{rest}
use Rattle.figures.specs.Table.{Figure}

abbrev pub lake_sides : Sides
lake_sides = record { nx = 4; ny = 4; nz = 4 }

-- cells 21 and 42, and 22 between them, where it is there; the other five of the inner box are empty
abbrev flag_at : Bool → ℕ → ℕ
flag_at between c =
    cond (eqb c 21 || eqb c 42 || (between && eqb c 22)) 1
    (cond (eqb c 22 || eqb c 25 || eqb c 26 || eqb c 37 || eqb c 38 || eqb c 41) 0 3)

-- masses 1,000 and −7, and 50 between them
abbrev pub lake : Bool → Lent
lake between =
    lent (tab 64 (flag_at between))
    (sets (sets (replicate 1216 (pos 0)) 399 (rest ++ cond between rest (replicate 19 (pos 0)))) 798 rest)
    (set (sets (replicate 64 (pos 0)) 21 (pos 1000 ∷ cond between (pos 50) (pos 0) ∷ [])) 42 (negsuc 6))
    (sets (replicate 64 0) 21 (111 ∷ cond between 5 0 ∷ []))
    (pos 0 ∷ pos 0 ∷ pos 0 ∷ [])

-- room for so many pools, and what it holds before
abbrev pub space : ℕ → Room
space n = room (replicate 64 7) (replicate 64 8) (replicate n 9) (replicate n (negsuc 9))

-- an answer and the four lent slices as one list
abbrev pub told_list : Told → Room → List ℤ
told_list t r =
    pos (told_number t) ∷ pos (told_place t) ∷ pos (told_pools t) ∷ (map pos r.marks ++ map pos r.work ++ map pos r.counts ++ r.waters)

-- marks of 21, 22 and 42, all others 0; work all 0
abbrev cells : ℕ → ℕ → ℕ → List ℤ
cells first between second =
    tab 64 (λ c. pos (cond (eqb c 21) first (cond (eqb c 22) between (cond (eqb c 42) second 0)))) ++ replicate 64 (pos 0)

abbrev pub asked : Bool → ℕ → List ℤ → Figure
asked between n said = record { worked = told_list (pools_answer lake_sides (lake between) (space n)) (pools_room lake_sides (lake between) (space n)); said = said }

-- two corners, room for three: 2 pools, counts 1, 1, waters 1,000, −7, what stands behind them as it was
abbrev pub two_pools : List ℤ
two_pools = pos 0 ∷ pos 0 ∷ pos 2 ∷ (cells 1 0 2 ++ pos 1 ∷ pos 1 ∷ pos 9 ∷ pos 1000 ∷ negsuc 6 ∷ negsuc 9 ∷ [])

-- room for one: 21 at 2, marks and work all 0, the list as it was
abbrev pub no_room : List ℤ
no_room = pos 21 ∷ pos 2 ∷ pos 0 ∷ (cells 0 0 0 ++ pos 9 ∷ negsuc 9 ∷ [])

-- with 22 between them: 1 pool of 3 cells, water 1,043
abbrev pub one_pool : List ℤ
one_pool = pos 0 ∷ pos 0 ∷ pos 1 ∷ (cells 1 1 1 ++ pos 3 ∷ pos 1043 ∷ [])

abbrev pub pool_figures : List Figure
pool_figures = asked false 3 two_pools ∷ asked false 1 no_room ∷ asked true 1 one_pool ∷ []
