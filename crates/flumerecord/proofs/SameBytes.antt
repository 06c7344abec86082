-- An accepted flume's record is written back as the same bytes: what the reader hands back, with the slices that it filled, has the record r itself as its
-- record. The one idea: each number of the record is the part of r that it was read from, and parts that follow each other join. Assumes nothing.
use mathlib.Core.Path.{◌≡◌, refl, sym, ap, ◌∙◌}
use mathlib.Core.Bool.{true}
use mathlib.Core.List.{List, ◌++◌}
use Prim.Native.Nat.{ℕ, ◌≤◌, ◌<◌}
use native.Mathlib.Omega.{arith}
use lib.IntN.{ℤ, pos}
use lib.ListN.{length}
use Rattle.lattice.specs.Lattice.{d2q9, density}
use Rattle.grid.specs.Answer.{Done}
use Rattle.grid.specs.Outcome.{accepted}
use Rattle.grid.specs.State.{Lent, lent, state_of, lent_of, by_flag}
use Rattle.grid.proofs.Accepted.{done-accepted}
use Rattle.grid.proofs.Listed.{same-listed}
use Rattle.record.specs.Bytes.{part, join}
use Rattle.record.specs.Places.{cells_from}
use Rattle.record.specs.Layout.{cell_sections}
use Rattle.record.specs.Reading.{mass_read, part_read, parts_read}
use Rattle.record.proofs.Numbers.{Bytes}
use Rattle.record.proofs.ByFlag.{by-liquid}
use Rattle.record.proofs.Again.{joined, word-again, int-again, long-again, count-again, There, whole_again}
use Rattle.flumerecord.specs.Layout.{flume_counts, flume_site_bytes, flume_head_bytes, flume_record_of}
use Rattle.flumerecord.specs.Reading.{flume_sides_in, flume_settings_in, flume_site_in, flume_carry_in, flume_cells_in, flume_flags_in, flume_flag_in, flume_interfaces_in, flume_state_in, flume_read_answer, flume_read_head, flume_read_flags, flume_read_set}
use Rattle.flumerecord.specs.inner.Passes.{FlumeSound}
use Rattle.flumerecord.proofs.Shaped.{sound, shape-accepted}

-- the set that the reader hands back
abbrev pub grid_read : List ℕ → Lent → Lent
grid_read r b = lent (flume_read_flags r b) (flume_read_set r b).parts (flume_read_set r b).masses (flume_read_set r b).fills (flume_read_set r b).carry

-- the claim
abbrev pub Claim : Type 0
Claim = (r : List ℕ) (b : Lent) → Bytes r → flume_read_answer r b ≡ Done → flume_record_of (flume_read_head r b).sides (flume_read_head r b).settings (flume_read_head r b).site (grid_read r b) ≡ r

module _ (r : List ℕ) (bytes : Bytes r) (s : FlumeSound r) where
  -- ---- sections 1 to 4
  head-again : flume_head_bytes (flume_sides_in r) (flume_settings_in r) (flume_site_in r) (flume_carry_in r) ≡ part (cells_from flume_counts 1) 0 r
  unfolding flume_head_bytes flume_site_bytes join flume_sides_in flume_settings_in flume_site_in flume_carry_in
  head-again =
      let h = s.totals.inside in
      let one = joined r 0 4 4 8 refl (count-again r bytes 0 2 4 s.first) (joined r 4 4 8 4 refl (word-again r bytes 4 (omega arith)) (joined r 8 4 12 0 refl (word-again r bytes 8 (omega arith)) refl)) in
      let two =
      joined r 12 4 16 16 refl (count-again r bytes 12 4 4 s.settings)
      (joined r 16 4 20 12 refl (int-again r bytes 16 (omega arith))
      (joined r 20 4 24 8 refl (int-again r bytes 20 (omega arith))
      (joined r 24 4 28 4 refl (int-again r bytes 24 (omega arith)) (joined r 28 4 32 0 refl (int-again r bytes 28 (omega arith)) refl)))) in
      let three =
      joined r 32 4 36 16 refl (count-again r bytes 32 2 8 s.origin)
      (joined r 36 8 44 8 refl (long-again r bytes 36 (omega arith)) (joined r 44 8 52 0 refl (long-again r bytes 44 (omega arith)) refl)) in
      let four = joined r 52 4 56 8 refl (count-again r bytes 52 1 8 s.totals) (joined r 56 8 64 0 refl (long-again r bytes 56 (omega arith)) refl) in
      joined r 0 52 52 12 refl (joined r 0 12 12 40 refl one (joined r 12 20 32 20 refl two (joined r 32 20 52 0 refl three refl))) four

  -- ---- masses and parts of the state, as its lists hold them
  module _ (mass : ℕ → ℤ) (p : ℕ → ℕ → ℤ) (ms : (c : ℕ) → c < flume_cells_in r → mass c ≡ (flume_state_in r).mass c) (ps : (c k : ℕ) → c < flume_cells_in r → k ≤ 8 → p c k ≡ (flume_state_in r).part c k) where
    there : There r bytes flume_counts 1 (flume_cells_in r) mass p
    unfolding flume_flags_in flume_state_in
    there = record {
      flags = s.flags;
      masses = s.masses;
      parts = s.parts;
      end = s.end;
      mass-is = λ c h e.
          ms c h
          ∙ ap (λ (f : ℕ). by_flag f (pos 0) (mass_read flume_counts 1 (flume_cells_in r) (flume_flag_in r) r c) (density d2q9 (parts_read d2q9 flume_counts 1 (flume_cells_in r) (flume_flags_in r) r c)) (pos 0)) e;
      part-is = λ c j h l e. ps c j h (omega arith) ∙ by-liquid (flume_flag_in r c) (part_read flume_counts 1 (flume_cells_in r) (flume_flag_in r) r (flume_interfaces_in r) c j) e;
    }

    back : flume_head_bytes (flume_sides_in r) (flume_settings_in r) (flume_site_in r) (flume_carry_in r) ++ cell_sections 9 (flume_cells_in r) (flume_flags_in r) mass p ≡ r
    unfolding flume_flags_in
    back = whole_again r bytes flume_counts 1 (flume_cells_in r) mass p there (flume_head_bytes (flume_sides_in r) (flume_settings_in r) (flume_site_in r) (flume_carry_in r)) head-again

pub same_bytes : Claim
unfolding flume_read_head flume_read_flags flume_read_set flume_record_of state_of lent_of flume_state_in flume_cells_in
same_bytes r b bytes done =
    let ok : accepted (flume_read_answer r b) ≡ true = done-accepted (flume_read_answer r b) done in
    let same = same-listed 8 (flume_cells_in r) (flume_state_in r) in
    let s = sound r (length b.parts) (length b.masses) (length b.fills) (length b.carry) (shape-accepted r b ok) in
    rw ok
    (back r bytes s (state_of 8 (lent_of 8 (flume_cells_in r) (flume_state_in r))).mass (state_of 8 (lent_of 8 (flume_cells_in r) (flume_state_in r))).part
    (λ c h. sym (same.masses c h)) (λ c k h l. sym (same.parts c k h l)))
