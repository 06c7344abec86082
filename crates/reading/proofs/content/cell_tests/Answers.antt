-- `reading::content::cell_tests`: the flags as a part of the record pass to test 5, the numbers behind them to test 6. Assumes nothing.
use mathlib.Core.Path.{◌≡◌, sym, ap, ap₂, ◌∙◌}
use mathlib.Core.Bool.{Bool, not}
use mathlib.Core.List.{List}
use Prim.Native.Nat.{ℕ, suc, ◌+◌, ◌*◌, ◌≤◌, ◌<◌}
use native.Mathlib.Nat.{le_trans, le_of_eq}
use native.Mathlib.Omega.{arith}
use lib.ListN.{length}
use borrow.Author.Tests.{not-true, not-false}
use mir.Syntax.{w64}
use mir.ValLaws.{to_z-of_z}
use Rattle.whole.specs.Fold.{first}
use Rattle.lattice.specs.Lattice.{d3q19}
use Rattle.lattice.specs.Cell.{carry_good}
use Rattle.grid.specs.Answer.{Answer}
use Rattle.grid.specs.Answer.{Done}
use Rattle.grid.specs.Grid.{sides_good, cells_of, grid_of}
use Rattle.grid.specs.Good.{bad_fluid, bad_rule, cell_good}
use Rattle.grid.specs.Outcome.{or_refuse, if_none}
use Rattle.grid.proofs.GoodSides.{good-sides}
use Rattle.grid.proofs.Accepted.{skip}
use Rattle.grid.proofs.Checks.{stop}
use Rattle.pumps.specs.Three.{totals_good}
use Rattle.record.specs.Places.{counts, masses_from, parts_from}
use Rattle.record.specs.Reading.{sides_in, totals_in, flags_at, carry_in, poured_in, taken_in, cells_in, flags_in, flag_in, interfaces_in, state_in}
use Rattle.record.specs.inner.Passes.{fair_at}
use Rattle.record.proofs.Gathered.{interfaces-most}
use Rattle.record.proofs.FlagPart.{totals-few, flags-are, length-flags, interfaces-are, liquids-are, bad-flag-is, bad-fluid-is}
use Rattle.reading.proofs.Fairness.{cell-fair, bad-cell, bad-carry, none-bad}
use Rattle.reading.proofs.content.cell_tests.Lts as lts
use Rattle.reading.proofs.content.cell_tests.Reads as reads
use Rattle.reading.proofs.content.cell_tests.Tie as tie
use Rattle.reading.proofs.content.cell_tests.Goals as goal
use Rattle.grid.specs.declared.refusals.Refusal.TheVariants.{BadLayer, BadState}
use Rattle.std.specs.Prelude.{Err}

abbrev At-After-cells-n : Type 0
At-After-cells-n = lts.After-cells tie.the-claims reads.Pre reads.Post tie.handed_clauses

abbrev At-After-flags_at-at : Type 0
At-After-flags_at-at = lts.After-flags_at tie.the-claims reads.Pre reads.Post tie.handed_clauses

abbrev At-Start : Type 0
At-Start = lts.Start tie.the-claims reads.Pre reads.Post tie.handed_clauses

abbrev At-After-first_open-open : Type 0
At-After-first_open-open = lts.After-first_open tie.the-claims reads.Pre reads.Post tie.handed_clauses

abbrev At-After-interface_cells-i : Type 0
At-After-interface_cells-i = lts.After-interface_cells tie.the-claims reads.Pre reads.Post tie.handed_clauses

abbrev At-After-first_unfair-unfair : Type 0
At-After-first_unfair-unfair = lts.After-first_unfair tie.the-claims reads.Pre reads.Post tie.handed_clauses

abbrev At-Else-unfair-n : Type 0
At-Else-unfair-n = lts.Else2 tie.the-claims reads.Pre reads.Post tie.handed_clauses

abbrev At-After-fair_carry : Type 0
At-After-fair_carry = lts.After-fair_carry tie.the-claims reads.Pre reads.Post tie.handed_clauses

abbrev At-After-good_totals : Type 0
At-After-good_totals = lts.After-good_totals tie.the-claims reads.Pre reads.Post tie.handed_clauses

abbrev At-Else-not-fair_carry : Type 0
At-Else-not-fair_carry = lts.Else3 tie.the-claims reads.Pre reads.Post tie.handed_clauses

-- N is the record's, and its flags begin where its count of section 4 says
cells_are : (c : At-After-cells-n) → c.cells-n.result ≡ cells_in c.args.rec.now
unfolding cells_in
cells_are c = c.cells-n.ensures ∙ ap cells_of c.requires.s_value

small : (c : At-After-cells-n) → c.cells-n.result ≤ 262144
unfolding cells_of
small c =
    let d = c in
    omega (arith, c.cells-n.ensures, (good-sides d.args.s (ap sides_good d.requires.s_value ∙ d.requires.sound.sides)).all)

abbrev start : At-After-flags_at-at → At-Start
start c = c.before.before.before

low : (c : At-After-flags_at-at) → c.flags_at-at.result ≤ 100
low c = omega (arith, c.flags_at-at.ensures, totals-few (start c).args.rec.now)

there : (c : At-After-flags_at-at) → let r = (start c).args.rec.now in flags_at r + cells_in r ≤ length r
there c = omega (arith, (start c).requires.sound.flags.inside)

-- test 5 of its flags
abbrev before-open : At-After-first_open-open → At-After-flags_at-at
before-open c = c.before.before

opened : (c : At-After-first_open-open) → let r = (start (before-open c)).args.rec.now in c.first_open-open.result ≡ bad_fluid 18 (grid_of (sides_in r)) (flag_in r)
opened c =
    let f = before-open c in
    let d = start f in
    c.first_open-open.ensures ∙ bad-fluid-is d.args.rec.now (cells_are f.before) f.flags_at-at.ensures d.args.s d.requires.s_value

-- I, and the places where masses and parts begin
module _ (c : At-After-interface_cells-i) where
  abbrev f : At-After-flags_at-at
  f = before-open c.before.before

  abbrev d : At-Start
  d = start f

  abbrev r : List ℕ
  r = d.args.rec.now

  abbrev end : ℕ
  end = f.flags_at-at.result + f.cells-n.result

  interfaces-here : c.interface_cells-i.result ≡ interfaces_in r
  interfaces-here = c.interface_cells-i.ensures ∙ interfaces-are r (cells_are f.before) f.flags_at-at.ensures (there f)

  few : c.interface_cells-i.result ≤ 262144
  unfolding interfaces_in
  few = omega (arith, interfaces-here, interfaces-most (cells_in r) (flag_in r), small f.before, cells_are f.before)

  masses-here : end + 4 ≡ masses_from counts (totals_in r) (cells_in r) + 4
  masses-here = omega (arith, cells_are f.before, f.flags_at-at.ensures)

  parts-here : end + 8 + 4 * c.interface_cells-i.result ≡ parts_from counts (totals_in r) (cells_in r) (interfaces_in r) + 4
  parts-here = omega (arith, cells_are f.before, f.flags_at-at.ensures, interfaces-here)

-- the search over the cells is test 6's
module _ (c : At-After-first_unfair-unfair) where
  abbrev i : At-After-interface_cells-i
  i = c.before

  abbrev n : ℕ
  n = cells_in (r i)

  abbrev place : ℕ
  place = bad_fluid 18 (grid_of (sides_in (r i))) (flag_in (r i))

  abbrev last : Answer
  last = or_refuse (totals_good (poured_in (r i)) (taken_in (r i))) (BadState n) Done

  abbrev six : Answer
  six = if_none (suc n) BadState (bad_rule d3q19 n (state_in (r i))) last

  abbrev bad : ℕ → Bool
  bad k = not (fair_at (r i) (flags_in (r i)) (end i + 4) (end i + 8 + 4 * i.interface_cells-i.result) k)

  rules-told : (k : ℕ) → k < n → bad k ≡ not (cell_good d3q19 (state_in (r i)) k)
  rules-told k h = ap not (sym (cell-fair (r i) (end i + 4) (end i + 8 + 4 * i.interface_cells-i.result) k (masses-here i) (parts-here i)))

  found : c.first_unfair-unfair.result ≡ first n bad
  found =
      let is = cells_are (f i).before in
      let from = (f i).flags_at-at.ensures in
      let m = end i + 4 in
      let p = end i + 8 + 4 * i.interface_cells-i.result in
      c.first_unfair-unfair.ensures
      ∙ ap (λ (l : List ℕ). first (length l) (λ k. not (fair_at (r i) l m p k))) (flags-are (r i) is from)
      ∙ ap (λ (k : ℕ). first k bad) (length-flags (r i) is from (there (f i)))

  shut : n ≤ place
  shut = omega (arith, opened i.before.before, cells_are (f i).before, i.if-open-n.false)

-- every cell keeps its rules
fair : (c : At-Else-unfair-n) → n c.before ≤ first (n c.before) (bad c.before)
fair c = let u = c in omega (arith, found u.before, cells_are (f (i u.before)).before, c.if-unfair-n.false)

-- the carry
abbrev unfair : At-After-fair_carry → At-Else-unfair-n
unfair c = c.before.before

carry-is : (c : At-After-fair_carry) → c.fair_carry.result ≡ carry_good (state_in (r (i (unfair c).before))).carry
unfolding state_in carry_in
carry-is c =
    let x = c.i64_at.result in
    c.fair_carry.ensures ∙ ap carry_good (to_z-of_z w64 x (record { sfits = c.i64_at.type_inv }) ∙ c.i64_at.ensures)

-- poured and taken
abbrev carried : At-After-good_totals → At-Else-not-fair_carry
carried c = c.before.before.before

module _ (c : At-Else-not-fair_carry) where
  abbrev u : At-After-first_unfair-unfair
  u = (unfair c.before).before

  -- what is left to answer is the totals'
  on-to-last : last u ≡ if_none (n u) BadLayer (place u) (six u)
  on-to-last =
      let b = none-bad d3q19 (n u) (state_in (r (i u))) (bad u) (rules-told u) (fair (unfair c.before)) (sym (carry-is c.before) ∙ not-false _ c.if-not-fair_carry.false-raw) in
      sym (skip (n u) BadLayer (place u) (six u) (shut u) ∙ skip (suc (n u)) BadState (bad_rule d3q19 (n u) (state_in (r (i u)))) (last u) (omega (arith, b)))

totals-are : (c : At-After-good_totals) → let q = r (i (u (carried c))) in c.good_totals.result ≡ totals_good (poured_in q) (taken_in q)
unfolding poured_in taken_in
totals-are c =
    let x = c.later_in in
    let y = c.later_in-2 in
    c.good_totals.ensures
    ∙ ap₂ totals_good (to_z-of_z w64 x.result (record { sfits = x.type_inv }) ∙ x.ensures) (to_z-of_z w64 y.result (record { sfits = y.type_inv }) ∙ y.ensures)

-- ---- the needs
pub cells-n-requires : goal.cells-n-requires
cells-n-requires c = ap sides_good c.requires.s_value ∙ c.requires.sound.sides

pub overflow_add-end : goal.overflow_add-end
overflow_add-end c = record { fits = omega (arith, small c.before.before, low c.before) }

pub slice_bounds-flags-end : goal.slice_bounds-flags-end
slice_bounds-flags-end c = omega (arith, cells_are c.before.before, c.flags_at-at.ensures, there c.before)

pub first_open-open-requires : goal.first_open-open-requires
first_open-open-requires c =
    let f = c in
    let d = start f.before.before in
    let r = d.args.rec.now in
    let is = cells_are f.before.before.before in
    let from = f.flags_at-at.ensures in
    let e = d.requires.s_value in
    record {
      sides = ap sides_good e ∙ d.requires.sound.sides;
      count = ap length (flags-are r is from) ∙ length-flags r is from (there f.before.before) ∙ sym is ∙ f.cells-n.ensures;
      tested = le_trans (le_of_eq (sym f.cells-n.ensures ∙ is)) (le_trans d.requires.sound.tested (le_of_eq (sym (bad-flag-is r is from d.args.s e))));
    }

pub returns-then-open-n : goal.returns-then-open-n
returns-then-open-n c =
    let o = c in
    let fl = before-open o.before.before in
    let q = (start fl).args.rec.now in
    let fluid = bad_fluid 18 (grid_of (sides_in q)) (flag_in q) in
    let rest = if_none (suc (cells_in q)) BadState (bad_rule d3q19 (cells_in q) (state_in q)) (or_refuse (totals_good (poured_in q) (taken_in q)) (BadState (cells_in q)) Done) in
    let e = opened o.before.before in
    let h : fluid < cells_in q = omega (arith, e, c.if-open-n.true, cells_are fl.before) in
    ap (λ (p : ℕ). Err (BadLayer p)) e ∙ sym (stop (cells_in q) BadLayer fluid rest h)

pub overflow_add-end-2 : goal.overflow_add-end-2
overflow_add-end-2 c = record { fits = omega (arith, small (f c.before).before, low (f c.before)) }

pub overflow_add-end-3 : goal.overflow_add-end-3
overflow_add-end-3 c = record { fits = omega (arith, small (f c.before).before, low (f c.before)) }

pub overflow_mul-i : goal.overflow_mul-i
overflow_mul-i c = record { fits = omega (arith, few c.before) }

pub overflow_add-end-4 : goal.overflow_add-end-4
overflow_add-end-4 c = record { fits = omega (arith, few c.before, small (f c.before).before, low (f c.before)) }

pub first_unfair-unfair-requires : goal.first_unfair-unfair-requires
first_unfair-unfair-requires c =
    let is = cells_are (f c.before).before in
    let from = (f c.before).flags_at-at.ensures in record { flags_in_bounds = omega (arith, interfaces-are (r c.before) is from (there (f c.before)), masses-here c.before, (d c.before).requires.sound.masses.inside); flags_in_bounds_2 = omega (arith, liquids-are (r c.before) is from (there (f c.before)), parts-here c.before, (d c.before).requires.sound.parts.inside) }

pub returns-then-unfair-n : goal.returns-then-unfair-n
returns-then-unfair-n c =
    let u = c in
    let e = found u.before.before in
    let h : first (n u.before.before) (bad u.before.before) < n u.before.before = omega (arith, e, cells_are (f (i u.before.before)).before, c.if-unfair-n.true) in
    let b = bad-cell d3q19 (n u.before.before) (state_in (r (i u.before.before))) (bad u.before.before) (rules-told u.before.before) h in
    ap (λ (p : ℕ). Err (BadState p)) (e ∙ sym b)
    ∙ sym (skip (n u.before.before) BadLayer (place u.before.before) (six u.before.before) (shut u.before.before) ∙ stop (suc (n u.before.before)) BadState (bad_rule d3q19 (n u.before.before) (state_in (r (i u.before.before)))) (last u.before.before) (omega (arith, b, h)))

pub i64_at-requires : goal.i64_at-requires
i64_at-requires c = let q = i c.before.before in omega (arith, (d q).requires.sound.flags.inside)

pub returns-then-not-fair_carry : goal.returns-then-not-fair_carry
returns-then-not-fair_carry c =
    let v = unfair c.before.before in
    let u = v.before in
    let b = bad-carry d3q19 (n u) (state_in (r (i u))) (bad u) (rules-told u) (fair v) (sym (carry-is c.before.before) ∙ not-true _ c.if-not-fair_carry.true-raw) in
    ap (λ (p : ℕ). Err (BadState p)) (cells_are (f (i u)).before ∙ sym b)
    ∙ sym (skip (n u) BadLayer (place u) (six u) (shut u) ∙ stop (suc (n u)) BadState (bad_rule d3q19 (n u) (state_in (r (i u)))) (last u) (omega (arith, b)))

pub later_in-requires : goal.later_in-requires
later_in-requires c = record { rec_in_bounds = (d (i (u c.before))).requires.sound.totals.inside; i_bound = omega arith }

pub later_in-requires-2 : goal.later_in-requires-2
later_in-requires-2 c = record { rec_in_bounds = (d (i (u c.before.before))).requires.sound.totals.inside; i_bound = omega arith }

pub returns-then-not-good_totals : goal.returns-then-not-good_totals
returns-then-not-good_totals c =
    let e = carried c.before.before in
    let q = u e in
    ap (λ (p : ℕ). Err (BadState p)) (cells_are (f (i q)).before)
    ∙ sym (ap (λ (t : Bool). or_refuse t (BadState (n q)) Done) (sym (totals-are c.before.before) ∙ not-true _ c.if-not-good_totals.true-raw)) ∙ on-to-last e

pub returns : goal.returns
returns c =
    let e = carried c.before.before in
    let q = u e in
    sym (ap (λ (t : Bool). or_refuse t (BadState (n q)) Done) (sym (totals-are c.before.before) ∙ not-false _ c.if-not-good_totals.false-raw)) ∙ on-to-last e
