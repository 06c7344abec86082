-- The flume's record of document 02: the grid record's seven sections with 2 sides, 4 settings, 2 origin numbers, the carry alone, and 9 parts a cell.
-- Assumes nothing.
use Rattle.std.specs.Prelude.{ℕ, ◌*◌, Bool, false, List, [], ◌∷◌, ◌++◌, ℤ, pos}
use Rattle.grid.specs.State.{Lent, state_of}
use Rattle.flume.specs.declared.FlumeSides.{FlumeSides}
use Rattle.flume.specs.declared.FlumeSettings.{FlumeSettings}
use Rattle.flume.specs.Flume.{flume_cells, level_settings}
use Rattle.record.specs.declared.Counts.{Counts}
use Rattle.record.specs.declared.Site.{Site}
use Rattle.record.specs.Bytes.{u32_of, i32_of, i64_of, join}
use Rattle.record.specs.Places.{length_of}
use Rattle.record.specs.Layout.{site_good, section, interfaces, liquids, cell_sections}
use Rattle.flumerecord.specs.declared.FlumeSite.{FlumeSite}

-- so that sections begin at 0, 12, 32, 52, 64, 68 + N, 72 + N + 4I, and the length is 76 + N + 4I + 36L
abbrev pub flume_counts : Counts
flume_counts = record { sides = 2; settings = 4; origin = 2; parts = 9 }

-- edge and origin: the box's with y = 0, so that (x, z) is allowed exactly when (x, 0, z) is in the box
abbrev pub level_site : FlumeSite → Site
level_site t = record { edge = t.edge; x = t.x; y = pos 0; z = t.z }

-- settings as a record keeps them: it has p and gravity, and no mode
abbrev pub flume_recorded : FlumeSettings → FlumeSettings
flume_recorded g = record { p = g.p; gx = g.gx; gz = g.gz; turbulent = false }

-- p, gravity, cell edge and origin coordinates in their ranges: what refusal 3 asks of a record
unfoldable pub flume_site_good : FlumeSettings → FlumeSite → Bool
flume_site_good g t = site_good (level_settings g) (level_site t)

-- sections 1 to 3: 2 sides nx, nz (u32); 4 settings p, gx, gz, edge (i32); 2 origin x, z (i64)
unfoldable pub flume_site_bytes : FlumeSides → FlumeSettings → FlumeSite → List ℕ
flume_site_bytes s g t =
    join (
    section flume_counts.sides (u32_of s.nx ∷ u32_of s.nz ∷ [])
    ∷ section flume_counts.settings (i32_of g.p ∷ i32_of g.gx ∷ i32_of g.gz ∷ i32_of t.edge ∷ [])
    ∷ section flume_counts.origin (i64_of t.x ∷ i64_of t.z ∷ [])
    ∷ [])

-- section 4: 1 carry (i64)
unfoldable pub flume_head_bytes : FlumeSides → FlumeSettings → FlumeSite → ℤ → List ℕ
flume_head_bytes s g t carry = flume_site_bytes s g t ++ section 1 (i64_of carry ∷ [])

-- the record of a flume: behind them N flags (u8); I interface masses by cell number (i32); 9L parts of liquid cells by cell number, 9 each (i32)
unfoldable pub flume_record_of : FlumeSides → FlumeSettings → FlumeSite → Lent → List ℕ
flume_record_of s g t a =
    let h = state_of 8 a in
    flume_head_bytes s g t h.carry ++ cell_sections 9 (flume_cells s) a.flags h.mass h.part

-- its length
unfoldable pub flume_record_length : FlumeSides → Lent → ℕ
flume_record_length s a =
    let flag = (state_of 8 a).flag in
    length_of flume_counts 1 (flume_cells s) (interfaces (flume_cells s) flag) (9 * liquids (flume_cells s) flag)

-- names every definition of this file: whoever unfolds this computes with all of them
unfoldable pub open-layout : Unit {0}
unfolding flume_site_good flume_site_bytes flume_head_bytes flume_record_of flume_record_length
open-layout = tt
