-- The grid record: seven sections in fixed order, each after its count of numbers. Assumes nothing.
use Rattle.std.specs.Prelude.{ℕ, ◌*◌, Bool, false, ◌&&◌, List, [], ◌∷◌, ◌++◌, ℤ, eqb}
use Rattle.whole.specs.Fold.{count}
use Rattle.lattice.specs.Cell.{edge_good, coordinate_good}
use Rattle.lattice.specs.declared.Settings.{Settings}
use Rattle.grid.specs.declared.Sides.{Sides}
use Rattle.grid.specs.Grid.{cells_of}
use Rattle.grid.specs.State.{Lent, state_of, by_flag, liquid, flag_of}
use Rattle.grid.specs.Outcome.{settings_good}
use Rattle.pumps.specs.Three.{number_in}
use Rattle.record.specs.declared.Site.{Site}
use Rattle.record.specs.Places.{counts, length_of}
use Rattle.record.specs.Bytes.{u32_of, i32_of, i64_of, join, gathered}

-- settings as a record keeps them: it has p and gravity, and no mode
abbrev pub recorded : Settings → Settings
recorded g = record { p = g.p; gx = g.gx; gy = g.gy; gz = g.gz; turbulent = false }

-- p, gravity, cell edge and origin coordinates in their ranges: what refusal 3 asks of a record
unfoldable pub site_good : Settings → Site → Bool
site_good g t = settings_good g && edge_good t.edge && coordinate_good t.x && coordinate_good t.y && coordinate_good t.z

-- how many of the first n cells are interface, and how many liquid; I and L are those of all N
unfoldable pub interfaces : ℕ → (ℕ → ℕ) → ℕ
interfaces n flag = count n (λ c. eqb (flag c) 1)

unfoldable pub liquids : ℕ → (ℕ → ℕ) → ℕ
liquids n flag = count n (λ c. liquid (flag c))

-- a section: its count of numbers, then the numbers
abbrev pub section : ℕ → List (List ℕ) → List ℕ
section n numbers = u32_of n ++ join numbers

-- interface masses by cell number
unfoldable pub mass_bytes : ℕ → (ℕ → ℕ) → (ℕ → ℤ) → List ℕ
mass_bytes n flag mass = gathered n (λ c. by_flag (flag c) [] (i32_of (mass c)) [] [])

-- parts of liquid cells by cell number, so many each, and in the box 19
unfoldable pub cell_numbers : ℕ → (ℕ → ℤ) → List ℕ
cell_numbers w part = gathered w (λ k. i32_of (part k))

unfoldable pub part_numbers : ℕ → ℕ → (ℕ → ℕ) → (ℕ → ℕ → ℤ) → List ℕ
part_numbers w n flag part = gathered n (λ c. by_flag (flag c) [] (cell_numbers w (part c)) (cell_numbers w (part c)) [])

-- sections 1 to 3: 3 sides (u32); 5 settings p, gx, gy, gz, edge (i32); 3 origin (i64)
unfoldable pub site_bytes : Sides → Settings → Site → List ℕ
site_bytes s g t =
    join (
    section counts.sides (u32_of s.nx ∷ u32_of s.ny ∷ u32_of s.nz ∷ [])
    ∷ section counts.settings (i32_of g.p ∷ i32_of g.gx ∷ i32_of g.gy ∷ i32_of g.gz ∷ i32_of t.edge ∷ [])
    ∷ section counts.origin (i64_of t.x ∷ i64_of t.y ∷ i64_of t.z ∷ [])
    ∷ [])

-- section 4: carry, poured, taken (i64)
unfoldable pub totals_bytes : ℤ → ℤ → ℤ → List ℕ
totals_bytes carry poured taken = section 3 (i64_of carry ∷ i64_of poured ∷ i64_of taken ∷ [])

unfoldable pub head_bytes : Sides → Settings → Site → ℤ → ℤ → ℤ → List ℕ
head_bytes s g t carry poured taken = site_bytes s g t ++ totals_bytes carry poured taken

-- sections 5 to 7: N flags (u8); interface masses; parts of liquid cells, so many each, and in the box 19
unfoldable pub cell_sections : ℕ → ℕ → List ℕ → (ℕ → ℤ) → (ℕ → ℕ → ℤ) → List ℕ
cell_sections w n flags mass part =
    join (
    section n (flags ∷ [])
    ∷ section (interfaces n (flag_of flags)) (mass_bytes n (flag_of flags) mass ∷ [])
    ∷ section (w * liquids n (flag_of flags)) (part_numbers w n (flag_of flags) part ∷ [])
    ∷ [])

abbrev pub cells_bytes : ℕ → List ℕ → (ℕ → ℤ) → (ℕ → ℕ → ℤ) → List ℕ
cells_bytes = cell_sections 19

-- the record of a grid
unfoldable pub record_of : Sides → Settings → Site → Lent → List ℕ
record_of s g t a =
    let h = state_of 18 a in
    head_bytes s g t (number_in a 0) (number_in a 1) (number_in a 2) ++ cells_bytes (cells_of s) a.flags h.mass h.part

-- its length, 108 + N + 4I + 76L
unfoldable pub record_length : Sides → Lent → ℕ
record_length s a = length_of counts 3 (cells_of s) (interfaces (cells_of s) (state_of 18 a).flag) (19 * liquids (cells_of s) (state_of 18 a).flag)

-- names every definition of this file: whoever unfolds this computes with all of them
unfoldable pub open-layout : Unit {0}
unfolding site_good interfaces liquids mass_bytes cell_numbers part_numbers site_bytes totals_bytes head_bytes cell_sections record_of record_length
open-layout = tt
