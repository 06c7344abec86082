-- `record::places::later_in`: a number of section 4 where three are there, else 0. Assumes nothing.
use mathlib.Core.Path.{◌≡◌, sym, ap, ◌∙◌}
use mathlib.Core.Bool.{Bool, cond}
use Prim.Native.Nat.{◌+◌, ◌*◌}
use native.Mathlib.Omega.{arith}
use lib.IntN.{pos}
use borrow.Author.Tests.{eq-eqb, ne_eqb}
use mir.Syntax.{w64}
use mir.ValLaws.{to_z-of_z}
use Rattle.record.specs.Bytes.{i64_at}
use Rattle.record.specs.Reading.{totals_in}
use Rattle.record.proofs.places.later_in.Lts as lts
use Rattle.record.proofs.places.later_in.Reads as reads
use Rattle.record.proofs.places.later_in.Tie as tie
use Rattle.record.proofs.places.later_in.Goals as goal

abbrev At-Else-totals_in-ne3 : Type 0
At-Else-totals_in-ne3 = lts.Else1 tie.the-claims reads.Pre reads.Post tie.handed_clauses

three : (c : At-Else-totals_in-ne3) → totals_in c.args.rec.now ≡ 3
three c = let e : c.totals_in.result ≡ 3 = omega (arith, c.if-totals_in-ne3.false) in sym c.totals_in.ensures ∙ e

pub returns-then-totals_in-ne3 : goal.returns-then-totals_in-ne3
returns-then-totals_in-ne3 c =
    let a = c.args in
    let r = a.rec.now in
    sym (ap (λ (t : Bool). cond t (i64_at r (72 + 8 * a.i)) (pos 0)) (ne_eqb (totals_in r) 3 (λ e. c.if-totals_in-ne3.true (c.totals_in.ensures ∙ e))))

pub i64_at-requires : goal.i64_at-requires
i64_at-requires c = let d = c in omega (arith, three c.before, d.requires.rec_in_bounds, d.requires.i_bound)

pub returns : goal.returns
returns c =
    let a = c.args in
    let r = a.rec.now in
    to_z-of_z w64 c.i64_at.result (record { sfits = c.i64_at.type_inv }) ∙ c.i64_at.ensures
    ∙ sym (ap (λ (t : Bool). cond t (i64_at r (72 + 8 * a.i)) (pos 0)) (eq-eqb (totals_in r) 3 (three c.before.before)))
