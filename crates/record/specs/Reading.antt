-- What the reader answers, and what each lent slice then holds, for every input. Assumes nothing.
use Rattle.std.specs.Prelude.{ℕ, suc, ◌+◌, ◌*◌, Bool, false, ◌&&◌, cond, List, [], ℤ, pos, leb, eqb, length}
use Rattle.lattice.specs.Lattice.{Lattice, density, d3q19}
use Rattle.lattice.specs.declared.Settings.{Settings}
use Rattle.grid.specs.declared.Sides.{Sides}
use Rattle.grid.specs.Answer.{Answer}
use Rattle.grid.specs.Answer.{Done}
use Rattle.grid.specs.Grid.{cells_of, sides_good, grid_of}
use Rattle.grid.specs.State.{State, Lent, lent_of, by_flag, flag_of}
use Rattle.grid.specs.Step.{fill_for}
use Rattle.grid.specs.Good.{bad_flag, bad_fluid, bad_rule}
use Rattle.grid.specs.Outcome.{accepted, or_refuse, if_none}
use Rattle.pumps.specs.Three.{with_totals, totals_good}
use Rattle.record.specs.declared.Site.{Site}
use Rattle.record.specs.declared.Head.{Head}
use Rattle.record.specs.Bytes.{part, u32_at, i32_at, i64_at}
use Rattle.record.specs.declared.Counts.{Counts}
use Rattle.record.specs.Places.{past, counts, settings_from, origin_from, totals_from, cells_from, masses_from, parts_from}
use Rattle.record.specs.Layout.{site_good, interfaces, liquids}
use Rattle.grid.specs.declared.refusals.Refusal.TheVariants.{BadCount, BadEnd, BadFlag, BadLayer, BadLength, BadSetting, BadSides, BadState}

-- ---- over any counts: what sections 6 and 7 hold, were they whole, of n cells with these flags behind k numbers in section 4
module _ (K : Counts) (k n : ℕ) (flag : ℕ → ℕ) (r : List ℕ) where
  -- section 6: interface masses by cell number, so a cell's is past those of the interface cells before it
  abbrev pub mass_read : ℕ → ℤ
  mass_read c = i32_at r (masses_from K k n + 4 + 4 * interfaces c flag)

  -- section 7: parts of liquid cells by cell number, so many each, behind i interface masses
  abbrev pub part_read : ℕ → ℕ → ℕ → ℤ
  part_read i c j = i32_at r (parts_from K k n i + 4 + 4 * (K.parts * liquids c flag + j))

-- the state by its flags: parts of wall and empty cells 0, fluid mass = ρ, fills worked out
module _ (flag : ℕ → ℕ) where
  abbrev pub parts_by : (ℕ → ℕ → ℤ) → ℕ → ℕ → ℤ
  parts_by part c j = by_flag (flag c) (pos 0) (part c j) (part c j) (pos 0)

  module _ (L : Lattice) (part : ℕ → ℕ → ℤ) where
    abbrev pub masses_by : (ℕ → ℤ) → ℕ → ℤ
    masses_by mass c = by_flag (flag c) (pos 0) (mass c) (density L (part c)) (pos 0)

    abbrev pub state_by : (ℕ → ℤ) → ℤ → State
    state_by mass carry = record {
      flag = flag;
      part = part;
      mass = mass;
      fill = λ c. fill_for (flag c) (mass c) (density L (part c));
      carry = carry;
    }

-- the whole of it, of n cells with these flags
module _ (L : Lattice) (K : Counts) (k n : ℕ) (flags r : List ℕ) where
  abbrev pub parts_read : ℕ → ℕ → ℤ
  parts_read = parts_by (flag_of flags) (part_read K k n (flag_of flags) r (interfaces n (flag_of flags)))

  abbrev pub masses_read : ℕ → ℤ
  masses_read = masses_by (flag_of flags) L parts_read (mass_read K k n (flag_of flags) r)

  abbrev pub state_read : ℤ → State
  state_read carry = state_by (flag_of flags) L parts_read masses_read carry

-- ---- what the sections of the grid record hold, were they whole

-- number i of sections 1 to 4: sides, settings, origin, totals
abbrev side_at : List ℕ → ℕ → ℕ
side_at r i = u32_at r (past 0 4 i)

abbrev setting_at : List ℕ → ℕ → ℤ
setting_at r i = i32_at r (past (settings_from counts) 4 i)

abbrev origin_at : List ℕ → ℕ → ℤ
origin_at r i = i64_at r (past (origin_from counts) 8 i)

abbrev total_at : List ℕ → ℕ → ℤ
total_at r i = i64_at r (past (totals_from counts) 8 i)

unfoldable pub sides_in : List ℕ → Sides
sides_in r = record { nx = side_at r 0; ny = side_at r 1; nz = side_at r 2 }

unfoldable pub settings_in : List ℕ → Settings
settings_in r = record { p = setting_at r 0; gx = setting_at r 1; gy = setting_at r 2; gz = setting_at r 3; turbulent = false }

unfoldable pub site_in : List ℕ → Site
site_in r = record { edge = setting_at r 4; x = origin_at r 0; y = origin_at r 1; z = origin_at r 2 }

-- section 4: one number where its count says so, else three are asked for; with one, poured and taken are 0
unfoldable pub totals_in : List ℕ → ℕ
totals_in r = cond (leb (totals_from counts + 4) (length r) && eqb (u32_at r (totals_from counts)) 1) 1 3

unfoldable pub carry_in : List ℕ → ℤ
carry_in r = total_at r 0

abbrev pub later_in : List ℕ → ℕ → ℤ
later_in r i = cond (eqb (totals_in r) 3) (total_at r i) (pos 0)

unfoldable pub poured_in : List ℕ → ℤ
poured_in r = later_in r 1

unfoldable pub taken_in : List ℕ → ℤ
taken_in r = later_in r 2

-- section 5: the byte where its numbers begin, 84 or 100 by the count of section 4; the N flags, and the flag of a cell
abbrev pub flags_at : List ℕ → ℕ
flags_at r = cells_from counts (totals_in r) + 4

unfoldable pub cells_in : List ℕ → ℕ
cells_in r = cells_of (sides_in r)

unfoldable pub flags_in : List ℕ → List ℕ
flags_in r = part (cells_in r) (flags_at r) r

unfoldable pub flag_in : List ℕ → ℕ → ℕ
flag_in r c = flag_of (flags_in r) c

-- I and L of those flags
unfoldable pub interfaces_in : List ℕ → ℕ
interfaces_in r = interfaces (cells_in r) (flag_in r)

unfoldable pub liquids_in : List ℕ → ℕ
liquids_in r = liquids (cells_in r) (flag_in r)

-- sections 6 and 7, and the state
unfoldable pub mass_at : List ℕ → ℕ → ℤ
mass_at r c = mass_read counts (totals_in r) (cells_in r) (flag_in r) r c

unfoldable pub part_at : List ℕ → ℕ → ℕ → ℤ
part_at r c k = part_read counts (totals_in r) (cells_in r) (flag_in r) r (interfaces_in r) c k

unfoldable pub part_in : List ℕ → ℕ → ℕ → ℤ
part_in r c k = parts_by (flag_in r) (part_at r) c k

unfoldable pub mass_in : List ℕ → ℕ → ℤ
mass_in r c = masses_by (flag_in r) d3q19 (part_in r) (mass_at r) c

unfoldable pub state_in : List ℕ → State
state_in r = state_by (flag_in r) d3q19 (part_in r) (mass_in r) (carry_in r)

-- and the set that holds it, with poured and taken
abbrev pub set_in : List ℕ → Lent
set_in r = with_totals (lent_of 18 (cells_in r) (state_in r)) (poured_in r) (taken_in r)

-- ---- the tests, in the reader's order

-- a section of n numbers of some size: not whole is 10 at its beginning, and its count is tested as soon as it is read, 11
unfoldable pub whole : List ℕ → ℕ → ℕ → ℕ → ℕ → Answer → Answer
whole r number from n size rest =
    or_refuse (leb (from + 4) (length r)) (BadEnd from)
    (or_refuse (eqb (u32_at r from) n) (BadCount number)
    (or_refuse (leb (from + 4 + size * n) (length r)) (BadEnd from) rest))

-- sections 6 and 7 of i masses and m parts, from the byte where section 6 begins, and that nothing follows
abbrev pub ends_on : List ℕ → ℕ → ℕ → ℕ → Answer → Answer
ends_on r from i m rest =
    let parts = past from 4 i in
    let end = past parts 4 m in
    whole r 6 from i 4
    (whole r 7 parts m 4
    (or_refuse (leb (length r) end) (BadEnd end) rest))

-- all sections over any counts, of k numbers in section 4, n flags, i masses and m parts: after section 1 test 1 of the sides and 2 of the slices, after
-- section 5 test 4, the lowest bad flag at `bad`, and left-over bytes after section 7
abbrev pub opens_on : List ℕ → Counts → Bool → Bool → Answer → Answer
opens_on r K sides fit rest = whole r 1 0 K.sides 4 (or_refuse sides BadSides (or_refuse fit BadLength rest))

abbrev pub fronts_on : List ℕ → Counts → ℕ → ℕ → Answer → Answer
fronts_on r K k n rest =
    whole r 2 (settings_from K) K.settings 4
    (whole r 3 (origin_from K) K.origin 8
    (whole r 4 (totals_from K) k 8
    (whole r 5 (cells_from K k) n 1 rest)))

abbrev pub shapes_on : List ℕ → Counts → ℕ → ℕ → ℕ → ℕ → Bool → Bool → ℕ → Answer → Answer
shapes_on r K k n i m sides fit bad rest = opens_on r K sides fit (fronts_on r K k n (if_none n BadFlag bad (ends_on r (masses_from K k n) i m rest)))

-- test 2, by the lengths of parts, masses, fills and carry: the reader's set lacks the flags
abbrev pub slices_of : ℕ → ℕ → ℕ → ℕ → ℕ → ℕ → ℕ → Bool
slices_of w k n parts masses fills carry = eqb parts (w * n) && eqb masses n && eqb fills n && eqb carry k

unfoldable pub slices_fit : ℕ → ℕ → ℕ → ℕ → ℕ → Bool
slices_fit n parts masses fills carry = slices_of 19 3 n parts masses fills carry

-- the sections and their tests
unfoldable pub shape_answer : List ℕ → ℕ → ℕ → ℕ → ℕ → Answer → Answer
shape_answer r parts masses fills carry rest =
    let n = cells_in r in
    shapes_on r counts (totals_in r) n (interfaces_in r) (19 * liquids_in r) (sides_good (sides_in r)) (slices_fit n parts masses fills carry)
    (bad_flag (grid_of (sides_in r)) (flag_in r)) rest

-- then 3, 5, 6, and of poured and taken 6 at N
unfoldable pub content_answer : List ℕ → Answer
content_answer r =
    let n = cells_in r in
    or_refuse (site_good (settings_in r) (site_in r)) (BadSetting 0)
    (if_none n BadLayer (bad_fluid 18 (grid_of (sides_in r)) (flag_in r))
    (if_none (suc n) BadState (bad_rule d3q19 n (state_in r))
    (or_refuse (totals_good (poured_in r) (taken_in r)) (BadState n) Done)))

unfoldable pub read_answer : List ℕ → Lent → Answer
read_answer r a = shape_answer r (length a.parts) (length a.masses) (length a.fills) (length a.carry) (content_answer r)

-- ---- the outcome

-- values returned beside a refusal are 0
abbrev pub refused_head : Answer → Head
refused_head answer = record {
  answer = answer;
  sides = record { nx = 0; ny = 0; nz = 0 };
  settings = record { p = pos 0; gx = pos 0; gy = pos 0; gz = pos 0; turbulent = false };
  site = record { edge = pos 0; x = pos 0; y = pos 0; z = pos 0 };
}

-- the answer with sides, settings and origin
unfoldable pub read_head : List ℕ → Lent → Head
read_head r a =
    cond (accepted (read_answer r a)) (record { answer = Done; sides = sides_in r; settings = settings_in r; site = site_in r }) (refused_head (read_answer r a))

-- the flag section, the caller's own bytes from `flags_from` on; a part returned beside a refusal is empty
unfoldable pub flags_from : List ℕ → Lent → ℕ
flags_from r a = cond (accepted (read_answer r a)) (flags_at r) 0

unfoldable pub read_flags : List ℕ → Lent → List ℕ
read_flags r a = cond (accepted (read_answer r a)) (flags_in r) []

-- the lent slices: the state read, or untouched; `flags` is no part of them
unfoldable pub read_set : List ℕ → Lent → Lent
read_set r a = cond (accepted (read_answer r a)) (set_in r) a

-- names every definition of this file: whoever unfolds this computes with all of them
unfoldable pub open-reading : Unit {0}
unfolding sides_in settings_in site_in totals_in carry_in poured_in taken_in cells_in flags_in flag_in interfaces_in liquids_in mass_at part_at part_in mass_in state_in whole slices_fit shape_answer content_answer read_answer read_head flags_from read_flags read_set
open-reading = tt
