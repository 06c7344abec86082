-- `steps::stepping::step`: what the tests refuse is answered and nothing is written; else the base's step of the heads, and the second set's totals and index
-- put. Assumes nothing.
use borrow.Author.Rules.{sfits_of}
use mir.Syntax.{w64}
use mir.Facts.{to_z-of_z}
use lib.ListN.{length}
use Rattle.std.proofs.Common.{ℕ, refl, sym, subst}
use Rattle.grid.specs.State.{lent}
use Rattle.grid.proofs.Handed.{handed-on}
use Rattle.index.specs.Index.{index}
use Rattle.index.specs.inner.Laid.{Room}
use Rattle.pumps.proofs.Checked.{head-length}
use Rattle.step.proofs.Finishes.{advanced-lengths}
use Rattle.calls.proofs.Entrance.{may, carry-length, carry2-length, second-index}
use Rattle.calls.proofs.Outcomes.{refused, may-alone, stepped}
use Rattle.steps.proofs.stepping.step.Goals as goal

pub returns-in_err-entered : goal.returns-in_err-entered
returns-in_err-entered c = rw (handed-on c.from_residual.result c.from_residual.ensures.1) (refused _ _ _ _ _ c.in_err-entered.ensures)

pub slice_bounds-advanced-end : goal.slice_bounds-advanced-end
slice_bounds-advanced-end c = sym (head-length c.args.carry.now (carry-length _ _ _ _ _ (sym c.in_ok-entered.ensures)))

pub advanced-r-requires : goal.advanced-r-requires
advanced-r-requires c = may-alone (may _ _ _ _ _ (sym c.in_ok-entered.ensures)) refl

pub put_totals-requires : goal.put_totals-requires
put_totals-requires c = (carry-length _ _ _ _ _ (sym c.in_ok-entered.ensures), carry2-length _ _ _ _ _ (sym c.in_ok-entered.ensures))

pub make-requires : goal.make-requires
make-requires c =
    let passed = sym c.in_ok-entered.ensures in
    subst (λ (m : ℕ). Room m (index c.args.words2.now c.args.count2.now)) (sym (advanced-lengths (may _ _ _ _ _ passed).ready c.advanced-r.ensures).flags) (second-index _ _ _ _ _ passed)

pub returns : goal.returns
returns c =
    let passed = sym c.in_ok-entered.ensures in
    stepped _ _ _ _ _ passed c.advanced-r.ensures (advanced-lengths (may _ _ _ _ _ passed).ready c.advanced-r.ensures).flags
    (rw (to_z-of_z (sfits_of {w = w64} c.put_totals-arg-1.given)) at c.put_totals.ensures) c.make.ensures
