-- `runs::running::run`: what does not admit it is answered and nothing is written; else the base's run of the heads, and both sets' totals and indexes put.
-- Assumes nothing.
use borrow.Author.Rules.{sfits_of}
use mir.Syntax.{w64}
use mir.Facts.{to_z-of_z}
use lib.ListN.{length}
use lib.IntN.{ℤ}
use Rattle.std.proofs.Common.{ℕ, refl, sym, ap, ◌∙◌, subst, arith, List}
use Rattle.grid.specs.State.{lent}
use Rattle.index.specs.Index.{index}
use Rattle.index.specs.inner.Laid.{Room}
use Rattle.calls.specs.inner.Totals.{carried_with}
use Rattle.calls.proofs.Entrance.{may, carry-length, carry2-length, first-index, second-index}
use Rattle.runs.proofs.Outcomes.{may-both, went-alone, entry-passed, not-admitted, admitted-went}
use Rattle.runs.proofs.running.run.Goals as goal

pub returns-in-Err : goal.returns-in-Err
returns-in-Err c = not-admitted _ _ _ _ _ _ (sym c.in-Err.is ∙ c.admitted-a.ensures)

pub slice_copy_out-one : goal.slice_copy_out-one
slice_copy_out-one c = omega (arith, carry-length _ _ _ _ _ (entry-passed _ _ _ _ _ _ (sym c.admitted-a.ensures ∙ c.in_default.is)))

pub going-r-requires : goal.going-r-requires
going-r-requires c =
    let passed = entry-passed _ _ _ _ _ _ (sym c.admitted-a.ensures ∙ c.in_default.is) in
    may-both _ _ (may _ _ _ _ _ passed) (carry-length _ _ _ _ _ passed) (to_z-of_z (sfits_of {w = w64} c.one-1.given)) refl

pub put_carry-requires : goal.put_carry-requires
put_carry-requires c = carry-length _ _ _ _ _ (entry-passed _ _ _ _ _ _ (sym c.admitted-a.ensures ∙ c.in_default.is))

pub put_totals-requires : goal.put_totals-requires
put_totals-requires c =
    let passed = entry-passed _ _ _ _ _ _ (sym c.admitted-a.ensures ∙ c.in_default.is) in
    (c.put_carry.auto.totals ∙ carry-length _ _ _ _ _ passed, carry2-length _ _ _ _ _ passed)

pub make-requires : goal.make-requires
make-requires c =
    let passed = entry-passed _ _ _ _ _ _ (sym c.admitted-a.ensures ∙ c.in_default.is) in
    subst (λ (m : ℕ). Room m (index c.args.words.now c.args.count.now)) (sym (c.going-r.auto.flags ∙ (may _ _ _ _ _ passed).ready.sized.flags)) (first-index _ _ _ _ _ passed)

pub make-requires-2 : goal.make-requires-2
make-requires-2 c =
    let passed = entry-passed _ _ _ _ _ _ (sym c.admitted-a.ensures ∙ c.in_default.is) in
    let ready = may _ _ _ _ _ passed in
    subst (λ (m : ℕ). Room m (index c.args.words2.now c.args.count2.now)) (sym (c.going-r.auto.flags2 ∙ ready.alike.flags ∙ ready.ready.sized.flags)) (second-index _ _ _ _ _ passed)

pub returns : goal.returns
returns c =
    let admitted = sym c.admitted-a.ensures ∙ c.in_default.is in
    let passed = entry-passed _ _ _ _ _ _ admitted in
    let ready = may _ _ _ _ _ passed in
    let carry = rw (to_z-of_z (sfits_of {w = w64} c.put_carry-arg-1.given)) at c.put_carry.ensures in
    let carry2 = rw (to_z-of_z (sfits_of {w = w64} c.put_totals-arg-1.given)) at c.put_totals.ensures in
    admitted-went _ _ _ _ _ _ _ _ _ _ _ (sym admitted)
    (went-alone _ (carry-length _ _ _ _ _ passed) (to_z-of_z (sfits_of {w = w64} c.one-1.given)) c.going-r.ensures)
    (c.going-r.auto.flags ∙ ready.ready.sized.flags) (c.going-r.auto.flags2 ∙ ready.alike.flags ∙ ready.ready.sized.flags)
    carry (carry2 ∙ ap (carried_with _) carry) c.make.ensures c.make-2.ensures
