-- The length of a flume's record is 76 + N + 4I + 36L. Assumes nothing.
use mathlib.Core.Path.{◌≡◌, refl, ap, ◌∙◌}
use Prim.Native.Nat.{ℕ, ◌+◌}
use lib.IntN.{ℤ}
use lib.ListN.{length, length-append}
use Rattle.grid.specs.State.{Lent, state_of}
use Rattle.flume.specs.declared.FlumeSides.{FlumeSides}
use Rattle.flume.specs.declared.FlumeSettings.{FlumeSettings}
use Rattle.flume.specs.Flume.{flume_cells}
use Rattle.record.specs.Bytes.{bytes_of, join}
use Rattle.record.specs.Places.{cells_from}
use Rattle.record.specs.Layout.{cell_sections}
use Rattle.record.proofs.Assembled.{length-cells}
use Rattle.flumerecord.specs.declared.FlumeSite.{FlumeSite}
use Rattle.flumerecord.specs.Layout.{flume_counts, flume_site_bytes, flume_head_bytes, flume_record_of, flume_record_length}

pub length-head : (s : FlumeSides) (g : FlumeSettings) (t : FlumeSite) (carry : ℤ) → length (flume_head_bytes s g t carry) ≡ cells_from flume_counts 1
unfolding flume_head_bytes flume_site_bytes join bytes_of
length-head s g t carry = refl

pub length-record : (s : FlumeSides) (g : FlumeSettings) (t : FlumeSite) (a : Lent) → length a.flags ≡ flume_cells s → length (flume_record_of s g t a) ≡ flume_record_length s a
unfolding flume_record_of flume_record_length state_of
length-record s g t a e =
    let h = state_of 8 a in
    let cells = cell_sections 9 (flume_cells s) a.flags h.mass h.part in
    length-append (flume_head_bytes s g t h.carry) cells ∙ ap (λ (i : ℕ). i + length cells) (length-head s g t h.carry)
    ∙ length-cells flume_counts 1 (flume_cells s) a.flags h.mass h.part e
