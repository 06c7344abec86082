use mathlib.Core.Path.{◌≡◌, refl, ◌∙◌}
use Prim.Native.Nat.{◌-◌}
use native.Mathlib.Omega.{arith}
use Rattle.whole.specs.Fold.{sum}
use Rattle.whole.specs.laws.Machine.{does-fit, reads_as, v64}
use Rattle.excess.specs.inner.Gifts.{received_at}
use Rattle.excess.proofs.Takes.{asked, asked-of, sum_more, more}
use Rattle.excess.proofs.Readings.{told64}
use Rattle.flumeexcess.proofs.giving.all_gifts9.Goals as goal

pub overflow_sub-k : goal.overflow_sub-k
overflow_sub-k c = (c.requires.0.taker _ c.requires.1 c.requires.2).from

pub loop-i-init : goal.loop-i-init
unfolding sum
loop-i-init c = refl

pub overflow_add-k : goal.overflow_add-k
overflow_add-k c = record { fits = omega (arith, (asked c.requires.0 c.args.c c.requires.1 c.requires.2 c.loop-i.i (record { some = omega arith; most = omega arith })).0) }

pub gift_from9-t-requires : goal.gift_from9-t-requires
gift_from9-t-requires c = asked-of c.requires.0 _ c.requires.1 c.requires.2 _ _ (record { some = omega arith; most = omega arith }) c.opposite.ensures

pub overflow_add-t : goal.overflow_add-t
overflow_add-t c =
    does-fit (more c.requires.0 _ c.requires.1 c.requires.2 _ _ (omega arith) (omega arith) c.loop-i.invariant c.opposite.ensures (told64 c.gift_from9-t.type_inv c.gift_from9-t.ensures)) tt

pub loop-i-preserved : goal.loop-i-preserved
loop-i-preserved c =
    reads_as (v64 (more c.requires.0 _ c.requires.1 c.requires.2 _ _ (omega arith) (omega arith) c.loop-i.invariant c.opposite.ensures (told64 c.gift_from9-t.type_inv c.gift_from9-t.ensures))) tt
    ∙ sum_more _ _ (omega arith)

pub returns : goal.returns
unfolding received_at
returns c =
    let e : c.loop-i.i - 1 ≡ 18 = omega arith in
    rw e at c.loop-i.invariant
