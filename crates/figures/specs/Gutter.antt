-- The gutter of the profile's figures: seven survey points over a grid of 5×4×4 cells, edge 50, origin (−50, 5,200,000,000, 0). Assumes nothing.
use Rattle.std.specs.Prelude.{◌||◌, cond, List, [], ◌∷◌, ◌++◌, ℕ, ◌+◌, eqb, ℤ, pos, negsuc}
use Rattle.whole.specs.Fold.{tab}
use Rattle.profile.specs.declared.Frame.{Frame}
use Rattle.profile.specs.Profile.{Survey, survey}

-- columns (1,1), (2,1), (3,1), (2,2) have an interface cell at height 1, with an empty one above; (3,2) is empty; the rest is wall
abbrev pub flag_at : ℕ → ℕ
flag_at c =
    cond (eqb c 26 || eqb c 27 || eqb c 28 || eqb c 32) 1
    (cond (eqb c 33 || eqb c 46 || eqb c 47 || eqb c 48 || eqb c 52 || eqb c 53) 0 3)

abbrev pub fill_at : ℕ → ℕ
fill_at c = cond (eqb c 26) 32768 (cond (eqb c 27) 65536 (cond (eqb c 32) 49152 0))

abbrev pub frame : ℤ → Frame
frame edge = record { sides = record { nx = 5; ny = 4; nz = 4 }; edge = edge; origin = record { x = negsuc 49; y = pos 5200000000; z = pos 0 } }

-- y is given less 5,200,000,000
abbrev pub point : ℕ → ℕ → ℕ → List ℤ
point x y z = pos x ∷ pos (5200000000 + y) ∷ pos z ∷ []

-- x of point 1 is given
abbrev pub points : ℕ → List ℤ
points x =
    point 25 75 60 ++ (point x 50 0 ++ (point 60 99 199 ++ (point 60 99 200 ++ (point 0 100 0 ++ (point 125 125 0 ++ point 75 120 10)))))

-- the third is given
abbrev pub chainages : ℕ → List ℤ
chainages third = pos 0 ∷ pos 1000 ∷ pos 2000 ∷ pos third ∷ pos 4000 ∷ pos 5000 ∷ pos 6000 ∷ []

-- the grid under a list of points, with an edge
abbrev pub along : ℤ → List ℤ → Survey
along edge list = survey (frame edge) (tab 80 flag_at) (tab 80 fill_at) list
