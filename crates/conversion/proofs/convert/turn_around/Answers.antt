use mathlib.Core.Path.{◌≡◌, ap, ◌∙◌}
use mathlib.Core.List.{List}
use Prim.Native.Nat.{ℕ, ◌-◌}
use native.Mathlib.Omega.{arith}
use lib.ListN.{get_or, set, length-set}
use Rattle.conversion.proofs.Around.{partly, partly-first, partly-all, partly-write, partly-keep}
use Rattle.conversion.proofs.convert.turn_around.Goals.{then-flags-b, else-flags-b}
use Rattle.conversion.proofs.convert.turn_around.Goals as goal

pub loop-i-init : goal.loop-i-init
loop-i-init c = λ b. partly-first c.args.flags.now c.args.off.now c.args.low c.args.c c.args.kind _ b

pub loop-i-preserved : goal.loop-i-preserved
loop-i-preserved c =
    let a = c.args in
    let l = c.loop-i in
    let reached = c.requires.0.all l.i c.loop-i-test.true in
    λ b. elim c.if-flags-b.branch [
      | then-flags-b w ↦ ap (λ (m : List ℕ). get_or m b 0) w.next-is
          ∙ partly-write a.flags.now a.off.now a.low a.c a.kind l.i (omega arith) l.next _ b (omega (arith, reached, length-set {A = ℕ})) w.if-flags-b.true (l.invariant b)
      | else-flags-b w ↦ ap (λ (m : List ℕ). get_or m b 0) w.next-is ∙ l.invariant b
          ∙ partly-keep a.flags.now a.off.now a.low a.c a.kind l.i (omega arith) _ b w.if-flags-b.false
    ]

pub returns : goal.returns
returns c =
    let a = c.args in
    let l = c.loop-i in
    let e : l.i - 1 ≡ 18 = omega arith in
    partly-all a.flags.now a.off.now a.low a.c a.kind a.next.now l.next (omega (arith, length-set {A = ℕ})) c.requires.1 c.requires.3
    (λ b. l.invariant b ∙ ap (λ (k : ℕ). partly a.flags.now a.off.now a.low a.c a.kind k (get_or (set a.next.now a.c (2 - a.kind)) b 0) b) e)
