-- `mirroring::turning::mirrored`: the outcome's definition, whatever is lent. Assumes nothing.
use mathlib.Core.Path.{subst}
use Rattle.std.proofs.Common.{ℕ, sym, ◌∙◌, arith}
use Rattle.grid.proofs.Handed.{handed-on}
use Rattle.index.specs.Index.{index}
use Rattle.index.specs.inner.Laid.{Room}
use Rattle.mirroring.proofs.Answers.{accepted, refused, done}
use Rattle.mirroring.proofs.turning.mirrored.Goals as goal

pub returns-in_err-entered : goal.returns-in_err-entered
returns-in_err-entered c = rw (handed-on c.from_residual.result c.from_residual.ensures.1) (refused _ _ _ _ c.in_err-entered.ensures)

pub directions-dirs-requires : goal.directions-dirs-requires
directions-dirs-requires c = (accepted _ _ _ _ (sym c.in_ok-entered.ensures)).axis-good

pub turn-requires : goal.turn-requires
turn-requires c = (accepted _ _ _ _ (sym c.in_ok-entered.ensures)).turnable _ c.directions-dirs.ensures

pub copy_from_slice-requires : goal.copy_from_slice-requires
copy_from_slice-requires c = let r = accepted _ _ _ _ (sym c.in_ok-entered.ensures) in omega (arith, r.second-carry, r.first-carry)

pub make-requires : goal.make-requires
make-requires c =
    let r = accepted _ _ _ _ (sym c.in_ok-entered.ensures) in
    subst (λ (m : ℕ). Room m (index c.args.words2.now c.args.count2.now)) (sym (c.turn.auto.flags2 ∙ r.second-flags)) r.room

pub returns : goal.returns
returns c =
    let e = sym c.in_ok-entered.ensures in
    done _ _ _ _ e c.directions-dirs.ensures c.turn.ensures c.copy_from_slice.ensures.after (c.turn.auto.flags2 ∙ (accepted _ _ _ _ e).second-flags) c.make.ensures
