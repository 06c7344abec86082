-- Two designers, one scan: the wall map that both share, a scheme's own flags, the grid that they make together, and the tests of a scheme.
-- A scheme is a lent set, its carry of three, whose flags are its own: 0 empty, 1 interface, 2 fluid, and 0 at walls. Assumes nothing.
use Rattle.std.specs.Prelude.{ℕ, suc, Bool, ◌&&◌, ◌||◌, not, cond, List, leb, eqb, length, get_or}
use Rattle.whole.specs.Fold.{first, tab}
use Rattle.lattice.specs.Lattice.{d3q19}
use Rattle.lattice.specs.Cell.{carry_good}
use Rattle.grid.specs.declared.Sides.{Sides}
use Rattle.grid.specs.Answer.{Answer}
use Rattle.grid.specs.Answer.{Done}
use Rattle.grid.specs.Grid.{cells_of, sides_good, grid_of}
use Rattle.grid.specs.State.{Lent, lent, state_of}
use Rattle.grid.specs.Good.{bad_fluid, cell_good}
use Rattle.grid.specs.Outcome.{or_refuse, if_none}
use Rattle.pumps.specs.Three.{number_in, totals_good, three_lengths}
use Rattle.grid.specs.declared.refusals.Refusal.TheVariants.{BadFlag, BadLayer, BadLength, BadSides, BadState}

-- ---- the map and the own flags

-- the map's byte of a cell, 1 for wall; what is no cell counts as wall
abbrev pub wall_at : List ℕ → ℕ → ℕ
wall_at map c = get_or map c 1

-- the scheme's own flag of a cell; what is no cell counts as empty
abbrev pub own_at : List ℕ → ℕ → ℕ
own_at own c = get_or own c 0

-- the grid's flag: 3 where the map is 1, the own flag elsewhere; and back: 0 for every 3
abbrev pub joined_flag : ℕ → ℕ → ℕ
joined_flag m f = cond (eqb m 1) 3 f

abbrev pub own_flag : ℕ → ℕ
own_flag f = cond (eqb f 3) 0 f

unfoldable pub joined_flags : Sides → List ℕ → List ℕ → List ℕ
joined_flags s map own = tab (cells_of s) (λ c. joined_flag (wall_at map c) (own_at own c))

unfoldable pub parted_flags : Sides → List ℕ → List ℕ
parted_flags s flags = tab (cells_of s) (λ c. own_flag (get_or flags c 3))

-- the grid that a scheme makes with the map, as a lent set; and the scheme of a grid
unfoldable pub joined : Sides → List ℕ → Lent → Lent
joined s map a = lent (joined_flags s map a.flags) a.parts a.masses a.fills a.carry

unfoldable pub parted : Sides → Lent → Lent
parted s x = lent (parted_flags s x.flags) x.parts x.masses x.fills x.carry

-- ---- the tests of a scheme

-- 4: the map's byte above 1, the own flag above 2, or an outer cell that is not wall in the map
unfoldable pub mark_good : Sides → List ℕ → List ℕ → ℕ → Bool
mark_good s map own c = leb (wall_at map c) 1 && leb (own_at own c) 2 && (not ((grid_of s).outer c) || eqb (wall_at map c) 1)

unfoldable pub bad_mark : Sides → List ℕ → List ℕ → ℕ
bad_mark s map own = first (cells_of s) (λ c. not (mark_good s map own c))

-- 5: fluid beside empty, in the grid
unfoldable pub bad_open : Sides → List ℕ → Lent → ℕ
bad_open s map a = bad_fluid 18 (grid_of s) (state_of 18 (joined s map a)).flag

-- 6: another rule broken in the grid, or an own flag other than 0 at a wall; N for the carry alone
unfoldable pub wet_wall : List ℕ → List ℕ → ℕ → Bool
wet_wall map own c = eqb (wall_at map c) 1 && not (eqb (own_at own c) 0)

unfoldable pub bad_own : Sides → List ℕ → Lent → ℕ
bad_own s map a =
    first (suc (cells_of s)) (λ c. cond (eqb c (cells_of s)) (not (carry_good (state_of 18 a).carry))
    (not (cell_good d3q19 (state_of 18 (joined s map a)) c) || wet_wall map a.flags c))

-- 4, 5 and 6; N for poured or taken alone, too
unfoldable pub ruled : Sides → List ℕ → Lent → Answer
ruled s map a =
    if_none (cells_of s) BadFlag (bad_mark s map a.flags)
    (if_none (cells_of s) BadLayer (bad_open s map a)
    (if_none (suc (cells_of s)) BadState (bad_own s map a)
    (or_refuse (totals_good (number_in a 1) (number_in a 2)) (BadState (cells_of s)) Done)))

-- 1, 2, 4, 5 and 6; `more` is what a call asks of its further lengths
unfoldable pub tested : Sides → List ℕ → Lent → Bool → Answer
tested s map a more =
    or_refuse (sides_good s) BadSides
    (or_refuse (three_lengths (cells_of s) a && eqb (length map) (cells_of s) && more) BadLength
    (ruled s map a))

-- names every definition of this file: whoever unfolds this computes with all of them
unfoldable pub open-scheme : Unit {0}
unfolding joined_flags parted_flags joined parted mark_good bad_mark bad_open wet_wall bad_own ruled tested
open-scheme = tt
