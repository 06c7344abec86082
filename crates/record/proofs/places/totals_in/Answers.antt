-- `record::places::totals_in`: one where the count is there and is 1, else three. Assumes nothing.
use mathlib.Core.Path.{sym, ap, ap₂, ◌∙◌}
use mathlib.Core.Bool.{Bool, ◌&&◌, cond}
use native.Mathlib.Omega.{arith}
use lib.Dec.{eqb}
use lib.ListN.{length}
use borrow.Author.Tests.{le-leb, lt-leb, eq-eqb, ne_eqb}
use Rattle.record.specs.Bytes.{u32_at}
use Rattle.record.specs.Reading.{totals_in}
use Rattle.record.proofs.places.totals_in.Goals as goal

pub returns-then-rec-lt72 : goal.returns-then-rec-lt72
unfolding totals_in
returns-then-rec-lt72 c =
    let r = c.args.rec.now in
    sym (ap (λ (t : Bool). cond (t && eqb (u32_at r 68) 1) 1 3) (lt-leb 72 (length r) (omega (arith, c.if-rec-lt72.true))))

pub returns-then-u32_at-eq1 : goal.returns-then-u32_at-eq1
unfolding totals_in
returns-then-u32_at-eq1 c =
    let r = c.args.rec.now in
    sym (ap₂ (λ (t u : Bool). cond (t && u) 1 3) (le-leb 72 (length r) (omega (arith, c.if-rec-lt72.false))) (eq-eqb (u32_at r 68) 1 (sym c.u32_at.ensures ∙ c.if-u32_at-eq1.true)))

pub returns : goal.returns
unfolding totals_in
returns c =
    let r = c.args.rec.now in
    sym (ap₂ (λ (t u : Bool). cond (t && u) 1 3) (le-leb 72 (length r) (omega (arith, c.if-rec-lt72.false))) (ne_eqb (u32_at r 68) 1 (λ e. c.if-u32_at-eq1.false (c.u32_at.ensures ∙ e))))
