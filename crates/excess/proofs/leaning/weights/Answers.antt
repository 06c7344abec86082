use mathlib.Core.Path.{refl, sym, ap, ◌∙◌}
use mathlib.Core.Bool.{cond}
use Prim.Native.Nat.{◌+◌}
use native.Mathlib.Omega.{arith}
use borrow.Author.Rules.{rules}
use lib.Dec.{eqb}
use lib.IntN.{ℤ, pos}
use lib.ListN.{get_or, length-set}
use Rattle.whole.specs.laws.Machine.{Within}
use Rattle.whole.specs.laws.Tab.{upto-more, upto_all}
use Rattle.lattice.specs.Cell.{positive}
use Rattle.lattice.specs.inner.Held.{vec}
use Rattle.excess.proofs.Leans.{of-dir, none_yet, by_dots, by-dots}
use Rattle.excess.proofs.Readings.{told64}
use Rattle.excess.proofs.leaning.weights.Goals as goal

looser : {z : ℤ} → Within z 131072 → Within z 1000000000
looser h = record { abs = omega (arith, h.abs) }

pub dots-d-requires : goal.dots-d-requires
dots-d-requires c = (looser c.requires.1, looser c.requires.2, looser c.requires.3)

pub loop-i-init : goal.loop-i-init
loop-i-init c = (refl, none_yet (by_dots c.args.flags.now c.args.off.now c.args.k c.dots-d.result))

pub loop-i-preserved : goal.loop-i-preserved
loop-i-preserved c =
    let l = c.loop-i.invariant in (
      simp length-set l.0,
      upto-more (pos 0) _ _ _ _ (omega arith) l.1
          (told64 c.weight.type_inv (c.weight.ensures ∙ ap (λ (z : ℤ). cond (eqb (get_or c.args.flags.now (c.args.k + get_or c.args.off.now c.loop-i.i 0) 0) 1) (positive z) (pos 0)) (search rules))
          ∙ sym (of-dir (by_dots c.args.flags.now c.args.off.now c.args.k c.dots-d.result) _ (omega arith))),
    )

pub returns : goal.returns
returns c = let l = c.loop-i.invariant in upto_all (pos 0) _ _ 19 l.0 (λ j h. l.1 j (omega arith)) ∙ by-dots _ _ _ (vec c.args.n) c.dots-d.ensures
