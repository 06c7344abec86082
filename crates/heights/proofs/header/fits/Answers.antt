-- `heights::header::fits`: by the keyword. Assumes nothing.
use mathlib.Core.Path.{◌≡◌, sym, ap, ◌∙◌}
use lib.IntN.{ℤ}
use mir.Facts.{to_z-of_z}
use Rattle.heights.specs.declared.header.Key.{Key}
use Rattle.heights.specs.Header.{is_whole, is_no_data, fitting}
use Rattle.heights.proofs.header.fits.Goals as goal

by_key : {j k : Key} (z : ℤ) → k ≡ j → fitting j z ≡ fitting k z
by_key z e = ap (λ (k : Key). fitting k z) (sym e)

pub returns-in-Columns : goal.returns-in-Columns
returns-in-Columns c = c.is_whole.ensures ∙ ap is_whole (to_z-of_z c.ranges.v) ∙ by_key c.args.v c.in-Columns.is

pub returns-in-Rows : goal.returns-in-Rows
returns-in-Rows c = c.is_whole-in-Rows.ensures ∙ ap is_whole (to_z-of_z c.ranges.v) ∙ by_key c.args.v c.in-Rows.is

pub returns-in-Missing : goal.returns-in-Missing
returns-in-Missing c = c.is_no_data.ensures ∙ ap is_no_data (to_z-of_z c.ranges.v) ∙ by_key c.args.v c.in-Missing.is
