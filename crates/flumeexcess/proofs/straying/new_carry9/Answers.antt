use mathlib.Core.Path.{sym, ◌∙◌}
use native.Mathlib.Omega.{arith}
use lib.IntN.{+ℤ_idr}
use lib.ListN.{length}
use mir.Facts.{to_z-of_z}
use Rattle.whole.specs.Fold.{sum}
use Rattle.whole.specs.laws.Machine.{does-fit, reads_as, v64}
use Rattle.excess.proofs.Strays.{strayed-sum, strays-more, strays-keep, strays-on}
use Rattle.excess.proofs.Readings.{told64}
use Rattle.flumeexcess.proofs.straying.new_carry9.Goals as goal
use Rattle.flumeexcess.proofs.straying.new_carry9.Goals.{then-m-ne0, else-m-ne0}

pub loop-c-init : goal.loop-c-init
unfolding sum
loop-c-init c = (omega arith, sym (+ℤ_idr _))

pub overflow_add-t : goal.overflow_add-t
overflow_add-t c =
    does-fit (strayed-sum _ _ _ _ _ _ _ (length c.args.flags.now) (omega (arith, c.requires.0.marks-there)) c.requires.0.few c.requires.0.weighed (to_z-of_z c.ranges.carry) c.requires.1
    c.loop-c.invariant.1 c.if-m-ne0.true (told64 c.lost9-t.type_inv c.lost9-t.ensures)) tt

pub loop-c-preserved : goal.loop-c-preserved
loop-c-preserved c = (
  c.next_marked-c.ensures.past.most,
  strays-on _ _ _ _ _ _ _ _ c.loop-c.c _ c.next_marked-c.ensures.past
      (elim c.if-m-ne0.branch [
        | then-m-ne0 w ↦ w.t-is ∙ reads_as (v64 (strayed-sum _ _ _ _ _ _ _ (length c.args.flags.now) (omega (arith, c.requires.0.marks-there)) c.requires.0.few c.requires.0.weighed (to_z-of_z c.ranges.carry) c.requires.1
            c.loop-c.invariant.1 w.if-m-ne0.true (told64 w.lost9-t.type_inv w.lost9-t.ensures))) tt ∙ strays-more _ _ _ _ _ _ _ _
        | else-m-ne0 w ↦ w.t-is ∙ c.loop-c.invariant.1 ∙ strays-keep _ _ _ _ _ _ _ _ w.if-m-ne0.false
      ]),
)
