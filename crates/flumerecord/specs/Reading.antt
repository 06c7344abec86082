-- What the flume's reader answers, and what each lent slice then holds, for every input. Assumes nothing.
use Rattle.std.specs.Prelude.{ℕ, suc, ◌+◌, ◌*◌, Bool, false, cond, List, [], ℤ, pos, length}
use Rattle.lattice.specs.Lattice.{d2q9}
use Rattle.grid.specs.Answer.{Answer}
use Rattle.grid.specs.Answer.{Done}
use Rattle.grid.specs.State.{State, Lent, lent_of, flag_of}
use Rattle.grid.specs.Good.{bad_flag, bad_fluid, bad_rule}
use Rattle.grid.specs.Outcome.{accepted, or_refuse, if_none}
use Rattle.flume.specs.declared.FlumeSides.{FlumeSides}
use Rattle.flume.specs.declared.FlumeSettings.{FlumeSettings}
use Rattle.flume.specs.Flume.{flume_sides_good, flume_cells, flume_grid}
use Rattle.record.specs.Bytes.{part, u32_at, i32_at, i64_at}
use Rattle.record.specs.Places.{past, settings_from, origin_from, totals_from, cells_from}
use Rattle.record.specs.Layout.{interfaces, liquids}
use Rattle.record.specs.Reading.{state_read, shapes_on, slices_of}
use Rattle.flumerecord.specs.declared.FlumeSite.{FlumeSite}
use Rattle.flumerecord.specs.declared.FlumeHead.{FlumeHead}
use Rattle.flumerecord.specs.Layout.{flume_counts, flume_site_good}
use Rattle.grid.specs.declared.refusals.Refusal.TheVariants.{BadLayer, BadSetting, BadState}

-- ---- what the sections hold, were they whole

-- number i of sections 1 to 3: sides, settings, origin
abbrev side_at : List ℕ → ℕ → ℕ
side_at r i = u32_at r (past 0 4 i)

abbrev setting_at : List ℕ → ℕ → ℤ
setting_at r i = i32_at r (past (settings_from flume_counts) 4 i)

abbrev origin_at : List ℕ → ℕ → ℤ
origin_at r i = i64_at r (past (origin_from flume_counts) 8 i)

unfoldable pub flume_sides_in : List ℕ → FlumeSides
flume_sides_in r = record { nx = side_at r 0; nz = side_at r 1 }

unfoldable pub flume_settings_in : List ℕ → FlumeSettings
flume_settings_in r = record { p = setting_at r 0; gx = setting_at r 1; gz = setting_at r 2; turbulent = false }

unfoldable pub flume_site_in : List ℕ → FlumeSite
flume_site_in r = record { edge = setting_at r 3; x = origin_at r 0; z = origin_at r 1 }

-- section 4
unfoldable pub flume_carry_in : List ℕ → ℤ
flume_carry_in r = i64_at r (past (totals_from flume_counts) 8 0)

-- section 5: its numbers begin at byte 68; the N flags, the flag of a cell, and I and L of those flags
abbrev pub flume_flags_at : ℕ
flume_flags_at = cells_from flume_counts 1 + 4

unfoldable pub flume_cells_in : List ℕ → ℕ
flume_cells_in r = flume_cells (flume_sides_in r)

unfoldable pub flume_flags_in : List ℕ → List ℕ
flume_flags_in r = part (flume_cells_in r) flume_flags_at r

abbrev pub flume_flag_in : List ℕ → ℕ → ℕ
flume_flag_in r = flag_of (flume_flags_in r)

abbrev pub flume_interfaces_in : List ℕ → ℕ
flume_interfaces_in r = interfaces (flume_cells_in r) (flume_flag_in r)

abbrev pub flume_liquids_in : List ℕ → ℕ
flume_liquids_in r = liquids (flume_cells_in r) (flume_flag_in r)

-- the state, by sections 6 and 7: parts of wall and empty cells 0, fluid mass = ρ, fills worked out
unfoldable pub flume_state_in : List ℕ → State
flume_state_in r = state_read d2q9 flume_counts 1 (flume_cells_in r) (flume_flags_in r) r (flume_carry_in r)

-- and the set that holds it
abbrev pub flume_set_in : List ℕ → Lent
flume_set_in r = lent_of 8 (flume_cells_in r) (flume_state_in r)

-- ---- the tests, in the reader's order

-- test 2: 9N parts, N masses, N fills and one number for the carry; the reader's set lacks the flags
unfoldable pub flume_slices_fit : ℕ → ℕ → ℕ → ℕ → ℕ → Bool
flume_slices_fit n parts masses fills carry = slices_of 9 1 n parts masses fills carry

-- the sections, after section 1 tests 1 and 2, after section 5 test 4, and left-over bytes after section 7
unfoldable pub flume_shape : List ℕ → ℕ → ℕ → ℕ → ℕ → Answer → Answer
flume_shape r parts masses fills carry rest =
    let n = flume_cells_in r in
    shapes_on r flume_counts 1 n (flume_interfaces_in r) (9 * flume_liquids_in r) (flume_sides_good (flume_sides_in r)) (flume_slices_fit n parts masses fills carry)
    (bad_flag (flume_grid (flume_sides_in r)) (flume_flag_in r)) rest

-- then 3, 5, 6
unfoldable pub flume_content : List ℕ → Answer
flume_content r =
    let n = flume_cells_in r in
    or_refuse (flume_site_good (flume_settings_in r) (flume_site_in r)) (BadSetting 0)
    (if_none n BadLayer (bad_fluid 8 (flume_grid (flume_sides_in r)) (flume_flag_in r))
    (if_none (suc n) BadState (bad_rule d2q9 n (flume_state_in r)) Done))

unfoldable pub flume_read_answer : List ℕ → Lent → Answer
flume_read_answer r a = flume_shape r (length a.parts) (length a.masses) (length a.fills) (length a.carry) (flume_content r)

-- ---- the outcome

-- values returned beside a refusal are 0
abbrev pub flume_refused_head : Answer → FlumeHead
flume_refused_head answer = record {
  answer = answer;
  sides = record { nx = 0; nz = 0 };
  settings = record { p = pos 0; gx = pos 0; gz = pos 0; turbulent = false };
  site = record { edge = pos 0; x = pos 0; z = pos 0 };
}

-- the answer with sides, settings and origin
unfoldable pub flume_read_head : List ℕ → Lent → FlumeHead
flume_read_head r a =
    cond (accepted (flume_read_answer r a)) (record { answer = Done; sides = flume_sides_in r; settings = flume_settings_in r; site = flume_site_in r })
    (flume_refused_head (flume_read_answer r a))

-- the flag section, the caller's own bytes from `flume_flags_from` on; a part returned beside a refusal is empty
unfoldable pub flume_flags_from : List ℕ → Lent → ℕ
flume_flags_from r a = cond (accepted (flume_read_answer r a)) flume_flags_at 0

unfoldable pub flume_read_flags : List ℕ → Lent → List ℕ
flume_read_flags r a = cond (accepted (flume_read_answer r a)) (flume_flags_in r) []

-- the lent slices: the state read, or untouched; `flags` is no part of them
unfoldable pub flume_read_set : List ℕ → Lent → Lent
flume_read_set r a = cond (accepted (flume_read_answer r a)) (flume_set_in r) a

-- names every definition of this file: whoever unfolds this computes with all of them
unfoldable pub open-reading : Unit {0}
unfolding flume_sides_in flume_settings_in flume_site_in flume_carry_in flume_cells_in flume_flags_in flume_state_in flume_slices_fit flume_shape flume_content flume_read_answer flume_read_head flume_flags_from flume_read_flags flume_read_set
open-reading = tt
