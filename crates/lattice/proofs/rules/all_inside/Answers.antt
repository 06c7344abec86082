use mathlib.Core.Path.{◌∙◌, ap₂}
use mathlib.Core.Bool.{◌&&◌}
use mir.Syntax.{w32}
use mir.Val.{SFits}
use mir.Facts.{to_z-of_z}
use borrow.Author.Rules.{rules}
use Rattle.whole.specs.laws.Search.{all_none, all_more}
use Rattle.lattice.specs.inner.Held.{parts_of}
use Rattle.lattice.specs.Cell.{part_good}
use Rattle.lattice.proofs.rules.all_inside.Goals as goal

pub loop-v-init : goal.loop-v-init
loop-v-init c = all_none (λ k. part_good (parts_of c.args.f k))

pub loop-v-preserved : goal.loop-v-preserved
loop-v-preserved c =
    let i = c.loop-v.v-index in
    let h : SFits w32 (parts_of c.args.f i) = search rules in
    ap₂ ◌&&◌ c.loop-v.invariant (rw (to_z-of_z h) at c.inside-w.ensures) ∙ all_more i (λ k. part_good (parts_of c.args.f k))
