use mathlib.Core.Path.{◌≡◌, sym, ◌∙◌, ap}
use Prim.Native.Nat.{ℕ}
use native.Mathlib.Omega.{arith}
use lib.IntN.{ℤ, ◌+ℤ◌}
use mir.Syntax.{w64}
use mir.Val.{to_z, of_z}
use Rattle.whole.specs.Fold.{sum}
use Rattle.whole.specs.laws.Bounds.{abs-add}
use Rattle.whole.specs.laws.Machine.{known, reads_as}
use Rattle.lattice.specs.inner.Held.{parts_of}
use Rattle.lattice.proofs.Pairs.{off_rest, off-one, off_next, off-dirs}
use Rattle.lattice.proofs.Reading.{reading}
use Rattle.surface.proofs.excess.total.Goals as goal

pub loop-i-init : goal.loop-i-init
loop-i-init c = (sym (off-one (parts_of c.args.w)), omega arith)

pub loop-i-preserved : goal.loop-i-preserved
loop-i-preserved c =
    let l = c.loop-i in
    let x = parts_of c.args.w l.i in
    let h = c.requires.at l.i (omega arith) (omega arith) in
    let t = known (to_z w64 l.t-bits) 19000000 (omega arith) in
    let e : to_z w64 (of_z w64 (to_z w64 l.t-bits +ℤ to_z w64 (of_z w64 x))) ≡ to_z w64 l.t-bits +ℤ x = reads_as (search reading depth 20) tt in
    (e ∙ ap (λ (z : ℤ). z +ℤ x) l.invariant.0 ∙ sym (off_next l.i (parts_of c.args.w) (omega arith)), rw e (omega (arith, abs-add (to_z w64 l.t-bits) x, h.abs)))

pub returns : goal.returns
returns c = c.loop-i.invariant.0 ∙ ap (λ (n : ℕ). sum n (off_rest (parts_of c.args.w))) (omega arith) ∙ off-dirs 18 (parts_of c.args.w)
