use mathlib.Core.Path.{◌≡◌, ap, ◌∙◌}
use Prim.Native.Nat.{ℕ}
use native.Mathlib.Omega.{arith}
use borrow.Author.Rules.{rules}
use lib.IntN.{pos}
use lib.ListN.{get_or}
use mir.Syntax.{w32}
use mir.Val.{SFits}
use mir.Facts.{to_z-of_z}
use Rattle.flume.specs.inner.Spread.{wide}
use Rattle.nine.proofs.Places.{filled_zero, filled_more, quiet_all}
use Rattle.nine.proofs.cells.quieted.Goals as goal

pub loop-k-init : goal.loop-k-init
loop-k-init c = filled_zero _

pub loop-k-preserved : goal.loop-k-preserved
loop-k-preserved c =
    let v = c.args.v in
    let to = c.place-in-loop-k in
    let h : SFits w32 (get_or v c.place.result (pos 0)) = search rules in
    filled_more (λ (j : ℕ). get_or v (wide j) (pos 0)) c.loop-k.r c.loop-k.k to.result _ c.loop-k.invariant c.loop-k-test.true to.ensures.0 to.ensures.1
    (to_z-of_z h ∙ ap (λ (n : ℕ). get_or v n (pos 0)) c.place.ensures.0)

pub returns : goal.returns
returns c =
    let e : c.loop-k.k ≡ 9 = omega arith in
    quiet_all c.args.v c.loop-k.r c.well_formed.0.1.0.1 c.requires (rw e at c.loop-k.invariant)
