-- `acts::act`: the outcome's definition, whatever is lent. Assumes nothing.
use Rattle.std.proofs.Common.{sym, arith}
use mir.Facts.{to_z-of_z}
use Rattle.grid.proofs.Handed.{handed-on}
use Rattle.pumps.proofs.Checked.{has-passed}
use Rattle.pumps.proofs.Acting.{may-work, told-refused, told-outside, told-other, told-worked}
use Rattle.acts.proofs.act.Goals as goal

pub returns-in_err-check : goal.returns-in_err-check
returns-in_err-check c = rw (handed-on c.from_residual.result c.from_residual.ensures.1) (told-refused _ _ _ _ _ c.in_err-check.ensures)

pub returns-then-flags-c : goal.returns-then-flags-c
returns-then-flags-c c =
    let ok = sym c.in_ok-check.ensures in
    told-outside _ _ _ _ _ ok (omega (arith, c.if-flags-c.true, (has-passed _ _ ok).sized.flags))

pub returns-then-flags-c-ne1 : goal.returns-then-flags-c-ne1
returns-then-flags-c-ne1 c =
    let ok = sym c.in_ok-check.ensures in
    told-other _ _ _ _ _ ok (omega (arith, c.if-flags-c.false, (has-passed _ _ ok).sized.flags)) c.if-flags-c-ne1.true

pub worked-requires : goal.worked-requires
worked-requires c =
    let pass = has-passed _ _ (sym c.in_ok-check.ensures) in
    may-work _ _ _ _ pass (omega (arith, c.if-flags-c.false, pass.sized.flags)) c.if-flags-c-ne1.false _ c.counted-k.ensures

pub returns : goal.returns
returns c =
    let ok = sym c.in_ok-check.ensures in
    told-worked _ _ _ _ _ ok (omega (arith, c.if-flags-c.false, (has-passed _ _ ok).sized.flags)) c.if-flags-c-ne1.false _ c.counted-k.ensures _ _ _ _
    (rw (to_z-of_z c.ranges.amount) at c.worked.ensures)
