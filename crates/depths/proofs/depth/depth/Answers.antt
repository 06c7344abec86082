-- `depths::depth::depth`: a column's sum, in millimetres. Assumes nothing.
use mathlib.Core.Path.{ap₂, ◌∙◌}
use mathlib.Core.Bool.{Bool, cond}
use Prim.Native.Nat.{ℕ, ◌*◌, ◌/◌}
use lib.IntN.{pos, negsuc}
use borrow.Author.Rules.{sfits_of}
use mir.Syntax.{w64}
use mir.Facts.{to_z-of_z}
use Rattle.depths.specs.Map.{depth_at}
use Rattle.depths.proofs.Measuring.{flags-column, fills-column, none-bad}
use Rattle.depths.proofs.depth.depth.Goals as goal

pub summed-c-requires : goal.summed-c-requires
summed-c-requires c =
    let p = c.requires in
    record { in_column = flags-column p.measured p.x_lt_nx p.y_lt_ny; in_column_2 = fills-column p.measured p.x_lt_nx p.y_lt_ny; nz_bound = none-bad p.measured p.x_lt_nx p.y_lt_ny }

pub millimetres-requires : goal.millimetres-requires
millimetres-requires c = record { sum_bound = c.summed-c.ensures.few; edge_bound = c.requires.measured.short }

pub returns : goal.returns
unfolding depth_at
returns c =
    let r = c.summed-c.ensures in
    to_z-of_z (sfits_of {w = w64} c.millimetres.type_inv) ∙ c.millimetres.ensures
    ∙ ap₂ (λ (b : Bool) (n : ℕ). cond b (negsuc 9998) (pos (n * c.args.edge / 65536))) r.walls r.adds
