use mathlib.Core.Path.{sym}
use native.Mathlib.Omega.{arith}
use borrow.Author.Rules.{rules}
use lib.IntN.{pos}
use mir.Syntax.{w64}
use mir.Val.{SFits}
use mir.Facts.{sfits_lit}
use Rattle.whole.specs.laws.Order.{lt_z-true}
use Rattle.whole.specs.laws.Tests.{lt_test}
use Rattle.lattice.specs.inner.Held.{parts_of}
use Rattle.surface.proofs.Weights.{is-positive-yes, lowest-is, lowest-none}
use Rattle.surface.proofs.excess.first.Goals as goal

pub returns-then-w-i-gt0 : goal.returns-then-w-i-gt0
returns-then-w-i-gt0 c =
    let w = parts_of c.args.w in
    let l = c.loop-i in
    let h : SFits w64 (w l.i) = search rules in
    let e = lt_test {w = w64} {a = pos 0} {b = w l.i} (sfits_lit tt) h c.if-w-i-gt0.true in
    sym (lowest-is w l.i (omega arith) (omega arith) (λ j p q. l.invariant j q p) (is-positive-yes (w l.i) (lt_z-true e)))

pub returns : goal.returns
returns c = sym (lowest-none (parts_of c.args.w) (λ j p q. c.loop-i.invariant j (omega arith) p))
