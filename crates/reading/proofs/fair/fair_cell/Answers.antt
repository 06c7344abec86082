-- `reading::fair::fair_cell` tests a liquid cell's parts, and an interface cell's mass too. Assumes nothing.
use mathlib.Core.Path.{◌≡◌, sym, ap, ◌∙◌, subst}
use mathlib.Core.Bool.{cond}
use mathlib.Core.List.{List}
use Prim.Native.Nat.{ℕ, ◌+◌, ◌*◌, ◌≤◌}
use native.Mathlib.Omega.{arith}
use lib.Dec.{eqb}
use lib.IntN.{ℤ}
use lib.ListN.{length}
use borrow.Author.Tests.{not-true, not-false}
use mir.Syntax.{w32, w64}
use mir.ValLaws.{to_z-of_z}
use Rattle.lattice.specs.Lattice.{d3q19}
use Rattle.lattice.specs.Cell.{mass_good}
use Rattle.lattice.specs.inner.Held.{parts_of}
use Rattle.lattice.specs.Body.{body_good}
use Rattle.record.specs.Bytes.{i32_at}
use Rattle.reading.proofs.Fairness.{body-tab, fair-dry, fair-not, fair-fluid, fair-interface}
use Rattle.reading.proofs.fair.fair_cell.Reads as reads
use Rattle.reading.proofs.fair.fair_cell.Lts as lts
use Rattle.reading.proofs.fair.fair_cell.Lts as lts
use Rattle.reading.proofs.fair.fair_cell.Reads as reads
use Rattle.reading.proofs.fair.fair_cell.Tie as tie
use Rattle.reading.proofs.fair.fair_cell.Goals as goal

abbrev At-After-good_body : Type 0
At-After-good_body = lts.After-good_body tie.the-claims reads.Pre reads.Post tie.handed_clauses

abbrev At-Else-flag-ne1 : Type 0
At-Else-flag-ne1 = lts.Else3 tie.the-claims reads.Pre reads.Post tie.handed_clauses

-- the parts, tested in the array that they were read into
body : (c : At-After-good_body) → c.good_body.result ≡ body_good d3q19 (λ k. i32_at c.args.rec.now (c.args.p + 4 * k))
body c =
    let a = c.args in
    c.good_body.ensures ∙ ap (λ (l : List ℤ). body_good d3q19 (parts_of l)) c.parts_at.ensures ∙ body-tab (λ k. i32_at a.rec.now (a.p + 4 * k))

is_one : (c : At-Else-flag-ne1) → c.args.flag ≡ 1
is_one c = omega arith

pub returns-then-one_liquid-eq0 : goal.returns-then-one_liquid-eq0
returns-then-one_liquid-eq0 c =
    let a = c.args in
    sym (fair-dry d3q19 a.flag (i32_at a.rec.now a.m) (λ k. i32_at a.rec.now (a.p + 4 * k)) (sym c.one_liquid.ensures ∙ c.if-one_liquid-eq0.true))

pub returns-then-not-good_body : goal.returns-then-not-good_body
returns-then-not-good_body c =
    let a = c.args in
    sym (fair-not d3q19 a.flag (i32_at a.rec.now a.m) (λ k. i32_at a.rec.now (a.p + 4 * k)) (λ e. c.if-one_liquid-eq0.false (c.one_liquid.ensures ∙ e)) (sym (body c.before.before) ∙ not-true _ c.if-not-good_body.true-raw))

pub returns-then-flag-ne1 : goal.returns-then-flag-ne1
returns-then-flag-ne1 c =
    let a = c.args in
    sym (fair-fluid d3q19 a.flag (i32_at a.rec.now a.m) (λ k. i32_at a.rec.now (a.p + 4 * k)) c.if-flag-ne1.true (sym (body c.before.before.before) ∙ not-false _ c.if-not-good_body.false-raw))

pub i32_at-requires : goal.i32_at-requires
i32_at-requires c =
    let d = c in
    subst (λ (f : ℕ). d.args.m + 4 * cond (eqb f 1) 1 0 ≤ length d.args.rec.now) (is_one c.before) d.requires.flag_in_bounds

pub returns : goal.returns
returns c =
    let a = c.args in
    let x = c.i32_at.result in
    let w = to_z-of_z w32 x (record { sfits = c.i32_at.type_inv }) in
    let y = to_z-of_z w64 c.wide.result (record { sfits = c.wide.type_inv }) in
    c.fair_mass.ensures
    ∙ ap mass_good (y ∙ c.wide.ensures ∙ w ∙ c.i32_at.ensures)
    ∙ sym (fair-interface d3q19 a.flag (i32_at a.rec.now a.m) (λ k. i32_at a.rec.now (a.p + 4 * k)) (is_one c.before.before.before.before) (sym (body c.before.before.before.before.before.before) ∙ not-false _ c.if-not-good_body.false-raw))
