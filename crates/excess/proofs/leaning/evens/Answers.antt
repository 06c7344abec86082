use mathlib.Core.Path.{refl, sym, ◌∙◌}
use native.Mathlib.Omega.{arith}
use lib.IntN.{pos}
use lib.ListN.{length-set}
use Rattle.whole.specs.laws.Tab.{upto-more, upto_all}
use Rattle.excess.proofs.Leans.{of-dir, none_yet, by_flags, by_flags_lem}
use Rattle.excess.proofs.Readings.{told64}
use Rattle.excess.proofs.leaning.evens.Goals as goal

pub loop-i-init : goal.loop-i-init
loop-i-init c = (refl, none_yet (by_flags c.args.flags.now c.args.off.now c.args.k))

pub loop-i-preserved : goal.loop-i-preserved
loop-i-preserved c =
    let l = c.loop-i.invariant in
    (simp length-set l.0, upto-more (pos 0) _ _ _ _ (omega arith) l.1 (told64 c.even.type_inv c.even.ensures ∙ sym (of-dir (by_flags c.args.flags.now c.args.off.now c.args.k) _ (omega arith))))

pub returns : goal.returns
returns c = let l = c.loop-i.invariant in upto_all (pos 0) _ _ 19 l.0 (λ j h. l.1 j (omega arith)) ∙ by_flags_lem _ _ _
