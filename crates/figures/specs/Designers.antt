-- The figures of two designers on one scan (P7), each as number and place: what scheme A is answered beside scheme B and beside a dry scheme, and what the
-- tests say of an own flag at an outer wall. Assumes nothing.
use Rattle.std.specs.Prelude.{Bool, true, false, List, [], ◌∷◌, ℕ, ℤ, pos}
use Rattle.grid.specs.Answer.{Answer}
use Rattle.grid.specs.State.{Lent}
use Rattle.grid.specs.Outcome.{number_of, place_of}
use Rattle.schemes.specs.Scheme.{tested}
use Rattle.walls.specs.Outcome.{wall_answer}
use Rattle.walls.specs.Figures.{sides, walls, scheme_a, scheme_b, scheme_dry, flagged}
use Rattle.figures.specs.Table.{Figure}

abbrev pub told_as : Answer → List ℤ
told_as a = pos (number_of a) ∷ pos (place_of a) ∷ []

-- A asks for a wall (true), or for one to be taken out, beside x
abbrev pub asks : Lent → Bool → ℕ → ℕ → ℕ → Figure
asks x add c number place = record { worked = told_as (wall_answer sides walls scheme_a x add c); said = pos number ∷ pos place ∷ [] }

-- what A is answered beside x, whoever x is
abbrev pub whoever_figures : Lent → List Figure → List Figure
whoever_figures x rest = asks x true 21 18 21 ∷ asks x true 22 17 22 ∷ asks x true 45 13 0 ∷ asks x false 0 17 0 ∷ asks x false 23 17 23 ∷ rest

-- an own flag at cell 0
abbrev pub flags : ℕ → ℕ → ℕ → Figure
flags f number place = record { worked = told_as (tested sides walls (flagged f) true); said = pos number ∷ pos place ∷ [] }

abbrev pub designer_figures : List Figure
designer_figures =
    whoever_figures scheme_b (asks scheme_b true 23 18 23 ∷ asks scheme_b false 22 18 22
    ∷ whoever_figures scheme_dry (asks scheme_dry true 23 0 0 ∷ asks scheme_dry false 22 0 0 ∷ flags 3 4 0 ∷ flags 1 6 0 ∷ []))
