-- Every figure that document 01 as amended marks with a star, in one table: what the definitions give, and what the document says. Assumes nothing.
use Rattle.std.specs.Prelude.{Bool, true, false, ◌&&◌, cond, List, [], ◌∷◌, ◌++◌, map, ℕ, ◌+◌, ℤ, pos, negsuc, get_or, replicate}
use Rattle.whole.specs.Fold.{tab}
use Rattle.lattice.specs.Cell.{fill_of, exchange, over, under, share}
use Rattle.grid.specs.Answer.{Answer}
use Rattle.grid.specs.State.{Lent, Scene}
use Rattle.grid.specs.Step.{new_flag, new_part, new_mass, new_fill, excess, normal, gift}
use Rattle.lattice.specs.Body.{eq_z}
use Rattle.grid.specs.Outcome.{number_of, place_of, check_answer, scene_of, step_answer, step_second}
use Rattle.pumps.specs.Three.{number_in, with_totals}
use Rattle.pumps.specs.Acts.{acted_number, acted_place, acted_moved, moved_of, act_answer, act_set, acted_by}
use Rattle.pumps.specs.Demands.{balance}
use Rattle.index.specs.Index.{Index, index, index_of}
use Rattle.index.specs.Outcome.{Counted, Asked, load_answer, count_answer, count_number, count_place, count_cells, next_answer, next_number, next_place, next_kind, next_cell, next_words}
use Rattle.tunnel.specs.Place.{Placed, placed_number, cell_number}
use Rattle.tunnel.specs.Place as placing
use Rattle.profile.specs.Kinds.{line_kind}
use Rattle.profile.specs.Profile.{seen, depth_at}
use Rattle.profile.specs.Outcome.{Profiled, profile_answer, profiled_number, profiled_place, wet_of, deepest_of}
use Rattle.figures.specs.Cases.{sides, falling, single, fallen, case_t, marks, calm, row_sides, row, pool_sides, pool}
use Rattle.figures.specs.Gutter.{points, chainages, along}
use Rattle.figures.specs.Surface.{words_t, cube, two, words_two, past}

-- a figure: what the definitions give, and what the document says
pub record Figure : Type 0 where
  pub worked : List ℤ
  pub said : List ℤ

abbrev one : ℤ → ℤ → Figure
one a b = record { worked = a ∷ []; said = b ∷ [] }

abbrev bit : Bool → ℤ
bit b = cond b (pos 1) (pos 0)

-- a set as one list
abbrev pub flat : Lent → List ℤ
flat a = map pos a.flags ++ a.parts ++ a.masses ++ map pos a.fills ++ a.carry

-- weights 1, 1, 2 of directions 1, 2, 3
abbrev weights : ℕ → ℤ
weights k = get_or (pos 0 ∷ pos 1 ∷ pos 1 ∷ pos 2 ∷ []) k (pos 0)

-- what a step of case T answers under gravity (gx, 0, −1048)
abbrev pulled_by : ℤ → Answer
pulled_by gx = step_answer sides (record { p = pos 1024; gx = gx; gy = pos 0; gz = negsuc 1047; turbulent = false }) case_t case_t marks

-- placing in a grid of 10×3×3 cells at the height and side of its origin, where the cell's number is its place on the axis of 10
abbrev placed : ℤ → Placed
placed point =
    placing.placing_of (record { nx = 10; ny = 3; nz = 3 }) (pos 50) (record { x = pos 5200000000; y = pos 0; z = pos 0 }) (record { x = point; y = pos 0; z = pos 0 })

abbrev found : ℤ → ℕ → ℕ → Figure
found point number cell = record { worked = pos (placed_number (placed point)) ∷ pos (cell_number (placed point)) ∷ []; said = pos number ∷ pos cell ∷ [] }

-- the two grids of P1 and P6 as a step reads them
abbrev a_row : Scene
a_row = scene_of row_sides calm row

abbrev a_pool : Scene
a_pool = scene_of pool_sides calm pool

-- parts 0, 1, 2 and the fill of a cell of the row after one step
abbrev stepped : ℕ → List ℤ
stepped c = new_part a_row c 0 ∷ new_part a_row c 1 ∷ new_part a_row c 2 ∷ pos (new_fill a_row c) ∷ []

-- a profile's answer as number, place, whether a point is wet, and the deepest point
abbrev answered : Profiled → List ℤ
answered a = pos (profiled_number a) ∷ pos (profiled_place a) ∷ pos (wet_of a) ∷ pos (deepest_of a) ∷ []

abbrev profiled : Profiled → ℕ → ℕ → ℕ → ℕ → Figure
profiled a number place wet deepest =
    record { worked = answered a; said = pos number ∷ pos place ∷ pos wet ∷ pos deepest ∷ [] }

-- an index as one list; what loading and the two questions answer: number and place, with the cells, with kind, cell and words
abbrev words : Index → List ℕ → Figure
words x said = record { worked = map pos (x.words ++ x.count); said = map pos said }

abbrev loads : Answer → ℕ → Figure
loads a number = record { worked = pos (number_of a) ∷ pos (place_of a) ∷ []; said = pos number ∷ pos 0 ∷ [] }

abbrev counts : Counted → ℕ → Figure
counts a cells =
    record { worked = map pos (count_number a ∷ count_place a ∷ count_cells a ∷ []); said = pos 0 ∷ pos 0 ∷ pos cells ∷ [] }

abbrev asks : Asked → ℕ → ℕ → ℕ → ℕ → Figure
asks a number kind cell read =
    record {
      worked = map pos (next_number a ∷ next_place a ∷ next_kind a ∷ next_cell a ∷ next_words a ∷ []);
      said = map pos (number ∷ 0 ∷ kind ∷ cell ∷ read ∷ []);
    }

abbrev ONE : ℤ
ONE = pos 589824

-- an act on case T, whose carry slice holds three numbers: number, place and what was moved; and mass, fill, poured, taken and the balance after it
abbrev still : Lent
still = with_totals case_t (pos 0) (pos 0)

abbrev told : Bool → ℕ → ℤ → Lent → List ℤ
told pour c amount a =
    let r = acted_by (act_answer pour sides c amount a) (moved_of pour amount (get_or a.masses c (pos 0))) in
    pos (acted_number r) ∷ pos (acted_place r) ∷ acted_moved r ∷ []

abbrev centre : Lent → List ℤ
centre a = get_or a.masses 13 (pos 0) ∷ pos (get_or a.fills 13 0) ∷ number_in a 1 ∷ number_in a 2 ∷ balance sides a ∷ []

abbrev drained : Lent
drained = act_set false 13 (pos 589824) (act_set true 13 (pos 100000) still)

abbrev full : Lent
full = act_set true 13 ONE (act_set true 13 ONE (act_set true 13 ONE (act_set true 13 ONE drained)))

-- the table
abbrev pub figures : List Figure
figures =
    -- exchange: fills add to 98,304, d = −3 gives −2, d = 3 gives 2
    one (exchange 98304 (negsuc 2)) (negsuc 1)
    ∷ one (exchange 98304 (pos 3)) (pos 2)
    -- ρ = 589,824: m 590,413 not filled, 590,414 filled; −589 not emptied, −590 emptied
    ∷ one (bit (over (pos 590413) ONE)) (pos 0)
    ∷ one (bit (over (pos 590414) ONE)) (pos 1)
    ∷ one (bit (under (negsuc 588) ONE)) (pos 0)
    ∷ one (bit (under (negsuc 589) ONE)) (pos 1)
    -- fill at that ρ: m 294,912 gives 32,768; 589,823 gives 65,535; −1 gives 0; 600,000 gives 65,536
    ∷ one (pos (fill_of (pos 294912) ONE)) (pos 32768)
    ∷ one (pos (fill_of (pos 589823) ONE)) (pos 65535)
    ∷ one (pos (fill_of (negsuc 0) ONE)) (pos 0)
    ∷ one (pos (fill_of (pos 600000) ONE)) (pos 65536)
    -- excess 10, weights 1, 1, 2: 3, 2, 5; excess −10: −3, −2, −5
    ∷ record { worked = share 3 (pos 10) weights 1 ∷ share 3 (pos 10) weights 2 ∷ share 3 (pos 10) weights 3 ∷ []; said = pos 3 ∷ pos 2 ∷ pos 5 ∷ [] }
    ∷ record { worked = share 3 (negsuc 9) weights 1 ∷ share 3 (negsuc 9) weights 2 ∷ share 3 (negsuc 9) weights 3 ∷ []; said = negsuc 2 ∷ negsuc 1 ∷ negsuc 4 ∷ [] }
    -- gravity (34,0,−1048) accepted, (35,0,−1048) refused, 3
    ∷ one (pos (number_of (pulled_by (pos 34)))) (pos 0)
    ∷ one (pos (number_of (pulled_by (pos 35)))) (pos 3)
    -- edge 50, origin 5,200,000,000, one axis of 10 cells: 5,200,000,149 is cell 2, 5,200,000,150 cell 3, 5,199,999,999 outside
    ∷ found (pos 5200000149) 0 2
    ∷ found (pos 5200000150) 0 3
    ∷ found (pos 5199999999) 13 0
    -- case T, through the whole outcome of a step
    ∷ record {
      worked = pos (number_of (step_answer sides falling case_t case_t marks)) ∷ pos (place_of (step_answer sides falling case_t case_t marks)) ∷ [];
      said = pos 0 ∷ pos 0 ∷ [];
    }
    ∷ record { worked = flat (step_second sides falling case_t case_t marks); said = flat (single fallen) }
    -- P6: fills 54,613, 33,333, 11,299 in a row; both sets are good; nx at 21, 22, 23 is 21,280, 43,314, 22,034
    ∷ one (pos (number_of (check_answer row_sides row))) (pos 0)
    ∷ one (pos (number_of (check_answer pool_sides pool))) (pos 0)
    ∷ record { worked = (normal a_row 21).x ∷ (normal a_row 22).x ∷ (normal a_row 23).x ∷ []; said = pos 21280 ∷ pos 43314 ∷ pos 22034 ∷ [] }
    -- P1, on the same grid: masses of cells 21, 22, 23 after one step; then of each parts 0, 1, 2 and the fill
    ∷ one (pos (number_of (step_answer row_sides calm row row (replicate 45 7)))) (pos 0)
    ∷ record { worked = new_mass a_row 21 ∷ new_mass a_row 22 ∷ new_mass a_row 23 ∷ []; said = pos 499621 ∷ pos 300194 ∷ pos 100185 ∷ [] }
    ∷ record { worked = stepped 21; said = pos 199617 ∷ pos 33459 ∷ pos 33082 ∷ pos 54674 ∷ [] }
    ∷ record { worked = stepped 22; said = pos 196801 ∷ pos 32894 ∷ pos 32706 ∷ pos 33322 ∷ [] }
    ∷ record { worked = stepped 23; said = pos 193520 ∷ pos 32344 ∷ pos 32162 ∷ pos 11309 ∷ [] }
    -- P6: cell 21 becomes fluid, its excess is 1,600, n = (49,152, 16,384, 0), and 22, 25, 26 get 600, 200, 800
    ∷ record { worked = pos (new_flag a_pool 21) ∷ excess a_pool 21 ∷ []; said = pos 2 ∷ pos 1600 ∷ [] }
    ∷ record { worked = (normal a_pool 21).x ∷ (normal a_pool 21).y ∷ (normal a_pool 21).z ∷ []; said = pos 49152 ∷ pos 16384 ∷ pos 0 ∷ [] }
    ∷ record { worked = gift a_pool 21 1 ∷ gift a_pool 21 3 ∷ gift a_pool 21 7 ∷ []; said = pos 600 ∷ pos 200 ∷ pos 800 ∷ [] }
    -- the profile of the gutter's seven points: deep 0.5, 1 and 1, outside, solid, dry, deep 0.75; in 65,536ths
    ∷ record {
      worked = map pos (tab 7 (λ i. line_kind (seen (along (pos 50) (points 50)) i)));
      said = pos 3 ∷ pos 3 ∷ pos 3 ∷ pos 4 ∷ pos 1 ∷ pos 2 ∷ pos 3 ∷ [];
    }
    ∷ record {
      worked = map pos (tab 7 (λ i. depth_at (along (pos 50) (points 50)) i));
      said = pos 32768 ∷ pos 65536 ∷ pos 65536 ∷ pos 0 ∷ pos 0 ∷ pos 0 ∷ pos 49152 ∷ [];
    }
    -- its deepest is point 1, the first among equals
    ∷ profiled (profile_answer (along (pos 50) (points 50)) (chainages 3000) 7 7) 0 0 1 1
    -- x of point 1 made 10,000,000,001: 3 at 1; chainage 3 equal to chainage 2 as well: 23 at 3; edge 0 as well: 3 at 0; room for six kinds as well: 2 at 0
    ∷ profiled (profile_answer (along (pos 50) (points 10000000001)) (chainages 3000) 7 7) 3 1 0 0
    ∷ profiled (profile_answer (along (pos 50) (points 10000000001)) (chainages 2000) 7 7) 23 3 0 0
    ∷ profiled (profile_answer (along (pos 0) (points 10000000001)) (chainages 2000) 7 7) 3 0 0 0
    ∷ profiled (profile_answer (along (pos 0) (points 10000000001)) (chainages 2000) 6 7) 2 0 0 0
    -- no points: 22 at 0
    ∷ profiled (profile_answer (along (pos 50) []) [] 0 0) 22 0 0 0
    -- P5, case T, one act after another: pour 100,000 at 13; take 589,824; take 5; pour 589,825, at 12, at 27; pour 589,824 four times; pour 1
    ∷ record { worked = told true 13 (pos 100000) still; said = pos 0 ∷ pos 0 ∷ pos 100000 ∷ [] }
    ∷ record { worked = centre (act_set true 13 (pos 100000) still); said = pos 394912 ∷ pos 43879 ∷ pos 100000 ∷ pos 0 ∷ pos 294912 ∷ [] }
    ∷ record { worked = told false 13 ONE (act_set true 13 (pos 100000) still); said = pos 0 ∷ pos 0 ∷ pos 394912 ∷ [] }
    ∷ record { worked = centre drained; said = pos 0 ∷ pos 0 ∷ pos 100000 ∷ pos 394912 ∷ pos 294912 ∷ [] }
    ∷ record { worked = told false 13 (pos 5) drained; said = pos 0 ∷ pos 0 ∷ pos 0 ∷ [] }
    ∷ record { worked = centre (act_set false 13 (pos 5) drained); said = pos 0 ∷ pos 0 ∷ pos 100000 ∷ pos 394912 ∷ pos 294912 ∷ [] }
    ∷ record { worked = told true 13 (pos 589825) drained; said = pos 16 ∷ pos 0 ∷ pos 0 ∷ [] }
    ∷ record { worked = told true 12 (pos 1) drained; said = pos 15 ∷ pos 12 ∷ pos 0 ∷ [] }
    ∷ record { worked = told true 27 (pos 1) drained; said = pos 13 ∷ pos 0 ∷ pos 0 ∷ [] }
    ∷ record { worked = told true 13 ONE (act_set true 13 ONE (act_set true 13 ONE (act_set true 13 ONE drained))); said = pos 0 ∷ pos 0 ∷ ONE ∷ [] }
    ∷ record { worked = centre full; said = pos 2359296 ∷ pos 65536 ∷ pos 2459296 ∷ pos 394912 ∷ pos 294912 ∷ [] }
    ∷ record { worked = told true 13 (pos 1) full; said = pos 16 ∷ pos 0 ∷ pos 0 ∷ [] }
    -- case T: one word 8,192, count 1; next from 0 and 13: cell 13, 1 word; from 14: none, 1; from 27: none, 0; from 28: 13 at 0
    ∷ words (index_of 27 case_t.flags) (8192 ∷ 1 ∷ [])
    ∷ loads (load_answer sides still (index words_t (1 ∷ []))) 0
    ∷ counts (count_answer sides words_t) 1
    ∷ asks (next_answer sides words_t 0) 0 1 13 1
    ∷ asks (next_answer sides words_t 13) 0 1 13 1
    ∷ asks (next_answer sides words_t 14) 0 2 0 1
    ∷ asks (next_answer sides words_t 27) 0 2 0 0
    ∷ asks (next_answer sides words_t 28) 13 0 0 0
    -- 5×5×5: words 2,147,483,648 and 536,870,912, count 2; with a stored count of 3 loading answers 14
    ∷ words (index_of 125 two.flags) (2147483648 ∷ 536870912 ∷ 2 ∷ [])
    ∷ loads (load_answer cube two (index words_two (2 ∷ []))) 0
    ∷ loads (load_answer cube two (index words_two (3 ∷ []))) 14
    -- next from 0: 31, 1 word; 32: 93, 2; 64: 93, 1; 94: none, 1; 125: none, 0
    ∷ asks (next_answer cube words_two 0) 0 1 31 1
    ∷ asks (next_answer cube words_two 32) 0 1 93 2
    ∷ asks (next_answer cube words_two 64) 0 1 93 1
    ∷ asks (next_answer cube words_two 94) 0 2 0 1
    ∷ asks (next_answer cube words_two 125) 0 2 0 0
    -- a bit past N: loading 14 at 0; how many still 2; next from 94 none, 1
    ∷ loads (load_answer cube two (index past (2 ∷ []))) 14
    ∷ counts (count_answer cube past) 2
    ∷ asks (next_answer cube past 94) 0 2 0 1
    -- sweeps from 0, word by word: case T's reads 2 = 1 + 1, that of 5×5×5 4 = 2 + 2
    ∷ one (pos (next_words (next_answer sides words_t 0) + next_words (next_answer sides words_t 14))) (pos 2)
    ∷ one (pos (next_words (next_answer cube words_two 0) + next_words (next_answer cube words_two 32) + next_words (next_answer cube words_two 94))) (pos 4)
    ∷ []

-- two lists of numbers are the same
abbrev pub same_z : List ℤ → List ℤ → Bool
same_z [] [] = true
same_z [] (b ∷ ys) = false
same_z (a ∷ xs) [] = false
same_z (a ∷ xs) (b ∷ ys) = eq_z a b && same_z xs ys

abbrev pub hold : List Figure → Bool
hold [] = true
hold (f ∷ fs) = same_z f.worked f.said && hold fs
