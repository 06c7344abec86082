-- Every figure of P3 that is marked with a star and belongs to check, step and run, in one table: what the definitions give, and what the document says.
-- Assumes nothing.
use Rattle.std.specs.Prelude.{Bool, true, false, ◌&&◌, List, [], ◌∷◌, ◌++◌, map, ℕ, ℤ, pos, negsuc, replicate}
use Rattle.lattice.specs.Body.{eq_z}
use Rattle.grid.specs.Answer.{Answer}
use Rattle.grid.specs.State.{Lent, Scene}
use Rattle.grid.specs.Step.{normal, new_flag, excess, gift}
use Rattle.grid.specs.Outcome.{number_of, place_of}
use Rattle.flume.specs.Outcome.{flume_check, flume_scene, flume_step, flume_second, flume_marks}
use Rattle.flume.specs.Cases.{square, quick, pulled, falling, falling_own, calm, fallen, single, case_f, strained, marks, nothing, pool}

-- a figure: what the definitions give, and what the document says
pub record Figure : Type 0 where
  pub worked : List ℤ
  pub said : List ℤ

-- an answer's number and place
abbrev answers : Answer → ℕ → Figure
answers a number = record { worked = pos (number_of a) ∷ pos (place_of a) ∷ []; said = pos number ∷ pos 0 ∷ [] }

-- a set as one list
abbrev pub flat : Lent → List ℤ
flat a = map pos a.flags ++ a.parts ++ a.masses ++ map pos a.fills ++ a.carry

abbrev case_u : Lent
case_u = strained (pos 66536) (pos 64536)

abbrev a_pool : Scene
a_pool = flume_scene (square 4) calm pool

-- the table
abbrev pub figures : List Figure
figures =
    -- case F, through the whole outcome of a step: the answer, the second set, the marks
    answers (flume_step (square 3) falling case_f case_f marks) 0
    ∷ record { worked = flat (flume_second (square 3) falling case_f case_f marks); said = flat (single fallen) }
    ∷ record { worked = map pos (flume_marks (square 3) falling case_f case_f marks); said = map pos (replicate 9 0) }
    -- gravity (34, −1048) accepted, (35, −1048) refused, 3
    ∷ answers (flume_step (square 3) (pulled (pos 34) (negsuc 1047)) case_f case_f marks) 0
    ∷ answers (flume_step (square 3) (pulled (pos 35) (negsuc 1047)) case_f case_f marks) 3
    -- sides 512×512 pass test 1, so that a set with no slices is refused for its lengths, 2; 513×3 are refused, 1
    ∷ answers (flume_check (square 512) nothing) 2
    ∷ answers (flume_check (record { nx = 513; nz = 3 }) nothing) 1
    -- 4×4: cell 5 becomes fluid, its excess is 1,600, n = (49,152, 16,384), and 6, 9, 10 get 600, 200, 800
    ∷ answers (flume_check (square 4) pool) 0
    ∷ record { worked = pos (new_flag a_pool 5) ∷ excess a_pool 5 ∷ []; said = pos 2 ∷ pos 1600 ∷ [] }
    ∷ record { worked = (normal a_pool 5).x ∷ (normal a_pool 5).z ∷ []; said = pos 49152 ∷ pos 16384 ∷ [] }
    ∷ record { worked = gift a_pool 5 1 ∷ gift a_pool 5 3 ∷ gift a_pool 5 5 ∷ []; said = pos 600 ∷ pos 200 ∷ pos 800 ∷ [] }
    -- P10: case U with parts 1, 2 at 66,536 and 3, 4 at 64,536 gives 64,563 and 66,509, in the plain mode 64,547 and 66,525; case F is the same in both modes
    ∷ answers (flume_step (square 3) (quick true) case_u case_u marks) 0
    ∷ record { worked = flat (flume_second (square 3) (quick true) case_u case_u marks); said = flat (strained (pos 64563) (pos 66509)) }
    ∷ record { worked = flat (flume_second (square 3) (quick false) case_u case_u marks); said = flat (strained (pos 64547) (pos 66525)) }
    ∷ record { worked = flat (flume_second (square 3) falling_own case_f case_f marks); said = flat (single fallen) }
    ∷ []

-- two lists of numbers are the same
abbrev pub same_z : List ℤ → List ℤ → Bool
same_z [] [] = true
same_z [] (b ∷ ys) = false
same_z (a ∷ xs) [] = false
same_z (a ∷ xs) (b ∷ ys) = eq_z a b && same_z xs ys

abbrev pub hold : List Figure → Bool
hold [] = true
hold (f ∷ fs) = same_z f.worked f.said && hold fs
