-- The flag section of a flume's record as the code meets it: the part from byte 68 on, N bytes; its length, its counts, and the searches over it.
-- Assumes nothing.
use mathlib.Core.Path.{◌≡◌, refl, ap₂}
use mathlib.Core.List.{List}
use Prim.Native.Nat.{ℕ, ◌+◌, ◌-◌, ◌≤◌}
use lib.ListN.{length, take, drop}
use Rattle.grid.specs.Good.{bad_flag, bad_fluid}
use Rattle.grid.specs.State.{flag_of}
use Rattle.flume.specs.declared.FlumeSides.{FlumeSides}
use Rattle.flume.specs.Flume.{flume_grid}
use Rattle.record.specs.Layout.{interfaces, liquids}
use Rattle.record.proofs.FlagPart.{part-is, length-part-is, interfaces-part, liquids-part}
use Rattle.flumerecord.specs.Reading.{flume_sides_in, flume_cells_in, flume_flags_in, flume_flag_in, flume_interfaces_in, flume_liquids_in}

module _ (r : List ℕ) {n : ℕ} (is : n ≡ flume_cells_in r) where
  pub flags-are : take (68 + n - 68) (drop 68 r) ≡ flume_flags_in r
  unfolding flume_flags_in
  flags-are = part-is r is refl

  pub length-flags : 68 + flume_cells_in r ≤ length r → length (flume_flags_in r) ≡ flume_cells_in r
  unfolding flume_flags_in
  length-flags h = length-part-is r {n = n} {at = 68} is refl h

  pub interfaces-are : 68 + flume_cells_in r ≤ length r → interfaces (length (take (68 + n - 68) (drop 68 r))) (flag_of (take (68 + n - 68) (drop 68 r))) ≡ flume_interfaces_in r
  unfolding flume_flags_in
  interfaces-are h = interfaces-part r is refl h

  pub liquids-are : 68 + flume_cells_in r ≤ length r → liquids (length (take (68 + n - 68) (drop 68 r))) (flag_of (take (68 + n - 68) (drop 68 r))) ≡ flume_liquids_in r
  unfolding flume_flags_in
  liquids-are h = liquids-part r is refl h

  pub bad-flag-is : (s : FlumeSides) → s ≡ flume_sides_in r → bad_flag (flume_grid s) (flag_of (take (68 + n - 68) (drop 68 r))) ≡ bad_flag (flume_grid (flume_sides_in r)) (flume_flag_in r)
  bad-flag-is s e = ap₂ (λ (t : FlumeSides) (l : List ℕ). bad_flag (flume_grid t) (flag_of l)) e flags-are

  pub bad-fluid-is : (s : FlumeSides) → s ≡ flume_sides_in r → bad_fluid 8 (flume_grid s) (flag_of (take (68 + n - 68) (drop 68 r))) ≡ bad_fluid 8 (flume_grid (flume_sides_in r)) (flume_flag_in r)
  bad-fluid-is s e = ap₂ (λ (t : FlumeSides) (l : List ℕ). bad_fluid 8 (flume_grid t) (flag_of l)) e flags-are
