use mathlib.Core.Path.{◌∙◌, ap₂}
use mathlib.Core.Bool.{◌&&◌}
use lib.IntN.{pos}
use mir.Syntax.{w32}
use mir.Val.{SFits}
use mir.Facts.{sfits_lit}
use borrow.Author.Rules.{rules}
use Rattle.whole.specs.laws.Search.{all_none, all_more}
use Rattle.lattice.specs.inner.Held.{parts_of}
use Rattle.lattice.specs.Body.{eq_z}
use Rattle.lattice.proofs.Equal.{bits-eq_z}
use Rattle.lattice.proofs.rules.all_zero.Goals as goal

pub loop-v-init : goal.loop-v-init
loop-v-init c = all_none (λ k. eq_z (parts_of c.args.f k) (pos 0))

pub loop-v-preserved : goal.loop-v-preserved
loop-v-preserved c =
    let x = parts_of c.args.f c.loop-v.v-index in
    let h : SFits w32 x = search rules in
    ap₂ ◌&&◌ c.loop-v.invariant (bits-eq_z w32 x (pos 0) h (sfits_lit tt)) ∙ all_more c.loop-v.v-index (λ k. eq_z (parts_of c.args.f k) (pos 0))
