use mathlib.Core.Path.{◌≡◌}
use Prim.Native.Nat.{ℕ, ◌+◌, ◌*◌}
use native.Mathlib.Omega.{arith}
use borrow.Author.Rules.{rules}
use lib.IntN.{pos}
use lib.ListN.{get_or}
use mir.Syntax.{w32}
use mir.Val.{SFits}
use mir.Facts.{to_z-of_z}
use Rattle.nine.proofs.Places.{filled_zero, filled_more, filled-all}
use Rattle.nine.proofs.cells.own9.Goals as goal

pub loop-k-init : goal.loop-k-init
loop-k-init c = filled_zero _

pub loop-k-preserved : goal.loop-k-preserved
loop-k-preserved c =
    let part = λ (j : ℕ). get_or c.args.parts.now (9 * c.args.c + j) (pos 0) in
    let h : SFits w32 (part c.loop-k.k) = search rules in
    filled_more part c.loop-k.v c.loop-k.k c.place.result _ c.loop-k.invariant c.loop-k-test.true c.place.ensures.0 c.place.ensures.1 (to_z-of_z h)

pub returns : goal.returns
returns c =
    let e : c.loop-k.k ≡ 9 = omega arith in
    filled-all _ _ (rw e at c.loop-k.invariant)
