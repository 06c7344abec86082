-- `solids::walls::twice`: twice the units, which fits. Assumes nothing.
use mathlib.Core.Path.{◌≡◌, sym, ap, ◌∙◌, subst}
use lib.IntN.{ℤ, pos, ◌*ℤ◌}
use lib.Signed.{quot_z}
use mir.Syntax.{w64}
use mir.Val.{SFits, to_z, of_z}
use mir.Facts.{to_z-of_z}
use Rattle.solids.proofs.Heights.{twice-fits}
use Rattle.solids.proofs.walls.twice.Lts as lts
use Rattle.solids.proofs.walls.twice.Reads as reads
use Rattle.solids.proofs.walls.twice.Tie as tie
use Rattle.solids.proofs.walls.twice.Goals as goal

abbrev At-After-units : Type 0
At-After-units = lts.After-units tie.the-claims reads.Pre reads.Post

-- what the units are
units-told : (c : At-After-units) → to_z w64 (of_z w64 c.units.result) ≡ quot_z c.args.v (pos 1000)
units-told c = to_z-of_z {w = w64} (record { sfits = c.units.type_inv }) ∙ c.units.ensures ∙ ap (λ (x : ℤ). quot_z x (pos 1000)) (to_z-of_z c.ranges.v)

pub overflow_mul-result : goal.overflow_mul-result
overflow_mul-result c = subst (λ (x : ℤ). SFits w64 (pos 2 *ℤ x)) (sym (units-told c)) (twice-fits _ c.ranges.v)

pub returns : goal.returns
returns c = to_z-of_z (overflow_mul-result c) ∙ ap (λ (x : ℤ). pos 2 *ℤ x) (units-told c)
