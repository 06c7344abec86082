-- `solids::walls::solid`: no height, or the centre below it. Assumes nothing.
use mathlib.Core.Path.{◌≡◌, sym, ap, ap₂, ◌∙◌}
use lib.IntN.{ℤ, pos, ◌*ℤ◌}
use lib.Signed.{quot_z, lt_z}
use mir.Syntax.{w64}
use mir.Val.{to_z, of_z}
use mir.Facts.{to_z-of_z}
use Rattle.heights.specs.Header.{is_no_data}
use Rattle.solids.proofs.Heights.{solid-none, solid-by}
use Rattle.solids.proofs.walls.solid.Lts as lts
use Rattle.solids.proofs.walls.solid.Reads as reads
use Rattle.solids.proofs.walls.solid.Tie as tie
use Rattle.solids.proofs.walls.solid.Goals as goal

abbrev At-After-is_no_data : Type 0
At-After-is_no_data = lts.After-is_no_data tie.the-claims reads.Pre reads.Post tie.handed_clauses

abbrev At-After-centre : Type 0
At-After-centre = lts.After-centre tie.the-claims reads.Pre reads.Post tie.handed_clauses

abbrev At-After-twice : Type 0
At-After-twice = lts.After-twice tie.the-claims reads.Pre reads.Post tie.handed_clauses

told : (c : At-After-is_no_data) → c.is_no_data.result ≡ is_no_data c.args.v
told c = c.is_no_data.ensures ∙ ap is_no_data (to_z-of_z c.ranges.v)

centre-told : (c : At-After-centre) → to_z w64 (of_z w64 c.centre.result) ≡ c.centre.result
centre-told c = to_z-of_z {w = w64} (record { sfits = c.centre.type_inv })

twice-told : (c : At-After-twice) → to_z w64 (of_z w64 c.twice.result) ≡ pos 2 *ℤ quot_z c.args.v (pos 1000)
twice-told c =
    to_z-of_z {w = w64} (record { sfits = c.twice.type_inv }) ∙ c.twice.ensures
    ∙ ap (λ (x : ℤ). pos 2 *ℤ quot_z x (pos 1000)) (to_z-of_z c.ranges.v)

pub returns-then-is_no_data : goal.returns-then-is_no_data
returns-then-is_no_data c = solid-none _ _ _ (sym (told c.before) ∙ c.if-is_no_data.true)

pub returns : goal.returns
returns c = ap₂ lt_z (centre-told c.before ∙ c.centre.ensures) (twice-told c) ∙ solid-by _ _ _ (sym (told c.before.before.before) ∙ c.if-is_no_data.false)
