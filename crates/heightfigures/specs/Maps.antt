-- The depth map's figures: a grid of 5×4×4 cells whose fills are worked out of its masses, and the text that it must give. Assumes nothing.
use Rattle.std.specs.Prelude.{◌||◌, cond, List, [], ◌∷◌, ◌++◌, map, ℕ, ◌*◌, eqb, ℤ, pos, negsuc, replicate}
use Rattle.whole.specs.Fold.{tab}
use Rattle.lattice.specs.Cell.{fill_of}
use Rattle.lattice.specs.Lattice.{d3q19}
use Rattle.grid.specs.declared.Sides.{Sides}
use Rattle.grid.specs.State.{Lent, lent}
use Rattle.record.specs.Writing.{written_number, written_place, written_bytes}
use Rattle.depths.specs.declared.Corner.{Corner}
use Rattle.depths.specs.Outcome.{map_written, map_room}
use Rattle.heightfigures.specs.Texts.{Figure}
use Rattle.heightfigures.specs.Inverts.{text}

abbrev pub sides : Sides
sides = record { nx = 5; ny = 4; nz = 4 }

-- edge 50, origin (−50, 5,200,000,000)
abbrev pub corner : Corner
corner = record { edge = pos 50; x = negsuc 49; y = pos 5200000000 }

-- columns (1,1), (2,1), (3,1), (2,2) have an interface cell at z = 1, with an empty one above; (1,2) is wall, (3,2) is empty
abbrev flag_at : ℕ → ℕ
flag_at c =
    cond (eqb c 26 || eqb c 27 || eqb c 28 || eqb c 32) 1
    (cond (eqb c 33 || eqb c 46 || eqb c 47 || eqb c 48 || eqb c 52 || eqb c 53) 0 3)

abbrev mass_at : ℕ → ℤ
mass_at c =
    cond (eqb c 26) (pos 294912) (cond (eqb c 27) (pos 589824) (cond (eqb c 28) (pos 1) (cond (eqb c 32) (pos 442368) (pos 0))))

-- a cell at rest of density 589,824
abbrev rest : List ℤ
rest = tab 19 (λ k. pos (16384 * d3q19.weight k))

abbrev none : ℕ → List ℤ
none cells = replicate (19 * cells) (pos 0)

abbrev pub water : Lent
water =
    lent (tab 80 flag_at)
    (none 26 ++ (rest ++ (rest ++ (rest ++ (none 3 ++ (rest ++ none 47))))))
    (tab 80 mass_at)
    (tab 80 (λ c. fill_of (mass_at c) (pos 589824)))
    (pos 0 ∷ pos 0 ∷ pos 0 ∷ [])

-- the map's 192 bytes
abbrev pub map_bytes : List ℕ
map_bytes = text (
    "ncols 5"
    ∷ "nrows 4"
    ∷ "xllcorner -0.050"
    ∷ "yllcorner 5200000.000"
    ∷ "cellsize 0.050"
    ∷ "NODATA_value -9999"
    ∷ "-9999 -9999 -9999 -9999 -9999"
    ∷ "-9999 -9999 37 0 -9999"
    ∷ "-9999 25 50 0 -9999"
    ∷ "-9999 -9999 -9999 -9999 -9999"
    ∷ [])

-- number, place and bytes that the writer answers, and the room
abbrev answered : List ℕ → List ℤ
answered room =
    let w = map_written sides corner water room in
    pos (written_number w) ∷ pos (written_place w) ∷ pos (written_bytes w) ∷ map pos (map_room sides corner water room)

abbrev pub maps : List Figure
maps =
    -- room for 194 bytes: the text, and two bytes that stay
    record { worked = answered (replicate 194 7); said = pos 0 ∷ pos 0 ∷ pos 192 ∷ map pos (map_bytes ++ 7 ∷ 7 ∷ []) }
    -- room for 191: 12 at 192, and nothing is written
    ∷ record { worked = answered (replicate 191 7); said = pos 12 ∷ pos 192 ∷ pos 0 ∷ map pos (replicate 191 7) }
    ∷ []
