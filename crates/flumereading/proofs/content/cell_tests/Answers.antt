-- `flumereading::content::cell_tests`: the flags as a part of the record pass to test 5, the numbers behind them to test 6. Assumes nothing.
use mathlib.Core.Path.{◌≡◌, sym, ap, ap₂, ◌∙◌}
use mathlib.Core.Bool.{Bool, not}
use mathlib.Core.List.{List}
use Prim.Native.Nat.{ℕ, suc, ◌+◌, ◌*◌, ◌≤◌, ◌<◌}
use native.Mathlib.Nat.{le_trans, le_of_eq}
use native.Mathlib.Omega.{arith}
use lib.ListN.{length}
use borrow.Author.Tests.{not-true, not-false}
use mir.Syntax.{w64}
use mir.ValLaws.{to_z-of_z}
use Rattle.whole.specs.Fold.{first}
use Rattle.lattice.specs.Lattice.{d2q9}
use Rattle.lattice.specs.Cell.{carry_good}
use Rattle.grid.specs.Answer.{Answer}
use Rattle.grid.specs.Answer.{Done}
use Rattle.flume.specs.Flume.{flume_sides_good, flume_cells, flume_grid}
use Rattle.grid.specs.Good.{bad_fluid, bad_rule, cell_good, dry_good, interface_good, fluid_good, fill_good}
use Rattle.grid.specs.Outcome.{if_none}
use Rattle.flumegrid.proofs.GoodSides.{few}
use Rattle.grid.proofs.Accepted.{skip}
use Rattle.grid.proofs.Checks.{stop}
use Rattle.record.specs.Places.{masses_from, parts_from}
use Rattle.flumerecord.specs.Layout.{flume_counts}
use Rattle.flumerecord.specs.Reading.{flume_sides_in, flume_carry_in, flume_cells_in, flume_flags_in, flume_flag_in, flume_interfaces_in, flume_state_in}
use Rattle.record.specs.inner.Passes.{fair_of, fair_held}
use Rattle.record.specs.Bytes.{i32_at}
use Rattle.record.specs.Layout.{interfaces, liquids}
use Rattle.record.specs.Reading.{mass_read, part_read}
use Rattle.record.proofs.Gathered.{interfaces-most}
use Rattle.flumereading.proofs.Flags.{flags-are, length-flags, interfaces-are, liquids-are, bad-flag-is, bad-fluid-is}
use Rattle.reading.proofs.Fairness.{cell-by, bad-cell, bad-carry, none-bad}
use Rattle.flumereading.proofs.content.cell_tests.Lts as lts
use Rattle.flumereading.proofs.content.cell_tests.Reads as reads
use Rattle.flumereading.proofs.content.cell_tests.Tie as tie
use Rattle.flumereading.proofs.content.cell_tests.Goals as goal
use Rattle.grid.specs.declared.refusals.Refusal.TheVariants.{BadLayer, BadState}
use Rattle.std.specs.Prelude.{Err}

abbrev At-After-cells-n : Type 0
At-After-cells-n = lts.After-cells tie.the-claims reads.Pre reads.Post tie.handed_clauses

abbrev At-Start : Type 0
At-Start = lts.Start tie.the-claims reads.Pre reads.Post tie.handed_clauses

abbrev At-After-first_open-open : Type 0
At-After-first_open-open = lts.After-first_open tie.the-claims reads.Pre reads.Post tie.handed_clauses

abbrev At-After-interface_cells-i : Type 0
At-After-interface_cells-i = lts.After-interface_cells tie.the-claims reads.Pre reads.Post tie.handed_clauses

abbrev At-After-first_unfair-unfair : Type 0
At-After-first_unfair-unfair = lts.After-first_unfair tie.the-claims reads.Pre reads.Post tie.handed_clauses

abbrev At-Else-unfair-n : Type 0
At-Else-unfair-n = lts.Else2 tie.the-claims reads.Pre reads.Post tie.handed_clauses

abbrev At-After-fair_carry : Type 0
At-After-fair_carry = lts.After-fair_carry tie.the-claims reads.Pre reads.Post tie.handed_clauses

-- N is the record's
cells_are : (c : At-After-cells-n) → c.cells-n.result ≡ flume_cells_in c.args.rec.now
unfolding flume_cells_in
cells_are c = c.cells-n.ensures ∙ ap flume_cells c.requires.s_value

small : (c : At-After-cells-n) → c.cells-n.result ≤ 262144
small c =
    let d = c in
    omega (arith, c.cells-n.ensures, few d.args.s (ap flume_sides_good d.requires.s_value ∙ d.requires.flume_sound.sides))

abbrev start : At-After-cells-n → At-Start
start c = c.before.before

there : (c : At-After-cells-n) → let r = (start c).args.rec.now in 68 + flume_cells_in r ≤ length r
there c = omega (arith, (start c).requires.flume_sound.flags.inside)

-- test 5 of its flags
abbrev before-open : At-After-first_open-open → At-After-cells-n
before-open c = c.before.before

opened : (c : At-After-first_open-open) → let r = (start (before-open c)).args.rec.now in c.first_open-open.result ≡ bad_fluid 8 (flume_grid (flume_sides_in r)) (flume_flag_in r)
opened c =
    let f = before-open c in
    let d = start f in
    c.first_open-open.ensures ∙ bad-fluid-is d.args.rec.now (cells_are f) d.args.s d.requires.s_value

-- I, and the places where masses and parts begin
module _ (c : At-After-interface_cells-i) where
  abbrev f : At-After-cells-n
  f = before-open c.before.before

  abbrev d : At-Start
  d = start f

  abbrev r : List ℕ
  r = d.args.rec.now

  abbrev end : ℕ
  end = 68 + f.cells-n.result

  interfaces-here : c.interface_cells-i.result ≡ flume_interfaces_in r
  interfaces-here = c.interface_cells-i.ensures ∙ interfaces-are r (cells_are f) (there f)

  few-here : c.interface_cells-i.result ≤ 262144
  few-here = omega (arith, interfaces-here, interfaces-most (flume_cells_in r) (flume_flag_in r), small f, cells_are f)

  masses-here : end + 4 ≡ masses_from flume_counts 1 (flume_cells_in r) + 4
  masses-here = omega (arith, cells_are f)

  parts-here : end + 8 + 4 * c.interface_cells-i.result ≡ parts_from flume_counts 1 (flume_cells_in r) (flume_interfaces_in r) + 4
  parts-here = omega (arith, cells_are f, interfaces-here)

-- a cell's rules come to what its own numbers say
cell-fair : (r : List ℕ) (masses parts c : ℕ) → masses ≡ masses_from flume_counts 1 (flume_cells_in r) + 4 → parts ≡ parts_from flume_counts 1 (flume_cells_in r) (flume_interfaces_in r) + 4
    → cell_good d2q9 (flume_state_in r) c ≡ fair_held d2q9 9 r (flume_flags_in r) masses parts c
unfolding cell_good dry_good interface_good fluid_good fill_good flume_state_in fair_held
cell-fair r masses parts c e d =
    let n = flume_cells_in r in
    let F = flume_flag_in r in
    cell-by d2q9 (F c) (mass_read flume_counts 1 n F r c) (part_read flume_counts 1 n F r (flume_interfaces_in r) c)
    ∙ ap₂ (λ (i j : ℕ). fair_of d2q9 (F c) (i32_at r (i + 4 * interfaces c F)) (λ k. i32_at r (j + 4 * (9 * liquids c F + k)))) (sym e) (sym d)

-- the search over the cells is test 6's
module _ (c : At-After-first_unfair-unfair) where
  abbrev i : At-After-interface_cells-i
  i = c.before

  abbrev n : ℕ
  n = flume_cells_in (r i)

  abbrev place : ℕ
  place = bad_fluid 8 (flume_grid (flume_sides_in (r i))) (flume_flag_in (r i))

  abbrev six : Answer
  six = if_none (suc n) BadState (bad_rule d2q9 n (flume_state_in (r i))) Done

  abbrev bad : ℕ → Bool
  bad k = not (fair_held d2q9 9 (r i) (flume_flags_in (r i)) (end i + 4) (end i + 8 + 4 * i.interface_cells-i.result) k)

  rules-told : (k : ℕ) → k < n → bad k ≡ not (cell_good d2q9 (flume_state_in (r i)) k)
  rules-told k h = ap not (sym (cell-fair (r i) (end i + 4) (end i + 8 + 4 * i.interface_cells-i.result) k (masses-here i) (parts-here i)))

  found : c.first_unfair-unfair.result ≡ first n bad
  found =
      let is = cells_are (f i) in
      let m = end i + 4 in
      let p = end i + 8 + 4 * i.interface_cells-i.result in
      c.first_unfair-unfair.ensures
      ∙ ap (λ (l : List ℕ). first (length l) (λ k. not (fair_held d2q9 9 (r i) l m p k))) (flags-are (r i) is)
      ∙ ap (λ (k : ℕ). first k bad) (length-flags (r i) is (there (f i)))

  shut : n ≤ place
  shut = omega (arith, opened i.before.before, cells_are (f i), i.if-open-n.false)

-- every cell keeps its rules
fair : (c : At-Else-unfair-n) → n c.before ≤ first (n c.before) (bad c.before)
fair c = let u = c in omega (arith, found u.before, cells_are (f (i u.before)), c.if-unfair-n.false)

-- the carry
abbrev unfair : At-After-fair_carry → At-Else-unfair-n
unfair c = c.before.before

carry-is : (c : At-After-fair_carry) → c.fair_carry.result ≡ carry_good (flume_state_in (r (i (unfair c).before))).carry
unfolding flume_state_in flume_carry_in
carry-is c =
    let x = c.i64_at.result in
    c.fair_carry.ensures ∙ ap carry_good (to_z-of_z w64 x (record { sfits = c.i64_at.type_inv }) ∙ c.i64_at.ensures)

-- ---- the needs
pub cells-n-requires : goal.cells-n-requires
cells-n-requires c = ap flume_sides_good c.requires.s_value ∙ c.requires.flume_sound.sides

pub overflow_add-end : goal.overflow_add-end
overflow_add-end c = record { fits = omega (arith, small c.before) }

pub slice_bounds-flags-end : goal.slice_bounds-flags-end
slice_bounds-flags-end c = omega (arith, cells_are c.before, there c.before)

pub first_open-open-requires : goal.first_open-open-requires
first_open-open-requires c =
    let f = c in
    let d = start f.before.before in
    let r = d.args.rec.now in
    let is = cells_are f.before.before in
    let e = d.requires.s_value in
    record {
      sides = ap flume_sides_good e ∙ d.requires.flume_sound.sides;
      count = ap length (flags-are r is) ∙ length-flags r is (there f.before.before) ∙ sym is ∙ f.cells-n.ensures;
      tested = le_trans (le_of_eq (sym f.cells-n.ensures ∙ is)) (le_trans d.requires.flume_sound.tested (le_of_eq (sym (bad-flag-is r is d.args.s e))));
    }

pub returns-then-open-n : goal.returns-then-open-n
returns-then-open-n c =
    let o = c in
    let fl = before-open o.before.before in
    let q = (start fl).args.rec.now in
    let fluid = bad_fluid 8 (flume_grid (flume_sides_in q)) (flume_flag_in q) in
    let rest = if_none (suc (flume_cells_in q)) BadState (bad_rule d2q9 (flume_cells_in q) (flume_state_in q)) Done in
    let e = opened o.before.before in
    let h : fluid < flume_cells_in q = omega (arith, e, c.if-open-n.true, cells_are fl) in
    ap (λ (p : ℕ). Err (BadLayer p)) e ∙ sym (stop (flume_cells_in q) BadLayer fluid rest h)

pub overflow_add-end-2 : goal.overflow_add-end-2
overflow_add-end-2 c = record { fits = omega (arith, small (f c.before)) }

pub overflow_add-end-3 : goal.overflow_add-end-3
overflow_add-end-3 c = record { fits = omega (arith, small (f c.before)) }

pub overflow_mul-i : goal.overflow_mul-i
overflow_mul-i c = record { fits = omega (arith, few-here c.before) }

pub overflow_add-end-4 : goal.overflow_add-end-4
overflow_add-end-4 c = record { fits = omega (arith, few-here c.before, small (f c.before)) }

pub first_unfair-unfair-requires : goal.first_unfair-unfair-requires
first_unfair-unfair-requires c =
    let is = cells_are (f c.before) in record { flags_in_bounds = omega (arith, interfaces-are (r c.before) is (there (f c.before)), masses-here c.before, (d c.before).requires.flume_sound.masses.inside); flags_in_bounds_2 = omega (arith, liquids-are (r c.before) is (there (f c.before)), parts-here c.before, (d c.before).requires.flume_sound.parts.inside) }

pub returns-then-unfair-n : goal.returns-then-unfair-n
returns-then-unfair-n c =
    let u = c in
    let e = found u.before.before in
    let h : first (n u.before.before) (bad u.before.before) < n u.before.before = omega (arith, e, cells_are (f (i u.before.before)), c.if-unfair-n.true) in
    let b = bad-cell d2q9 (n u.before.before) (flume_state_in (r (i u.before.before))) (bad u.before.before) (rules-told u.before.before) h in
    ap (λ (p : ℕ). Err (BadState p)) (e ∙ sym b)
    ∙ sym (skip (n u.before.before) BadLayer (place u.before.before) (six u.before.before) (shut u.before.before) ∙ stop (suc (n u.before.before)) BadState (bad_rule d2q9 (n u.before.before) (flume_state_in (r (i u.before.before)))) Done (omega (arith, b, h)))

pub i64_at-requires : goal.i64_at-requires
i64_at-requires c = let q = i c.before.before in omega (arith, (d q).requires.flume_sound.flags.inside)

pub returns-then-not-fair_carry : goal.returns-then-not-fair_carry
returns-then-not-fair_carry c =
    let v = unfair c.before.before in
    let u = v.before in
    let b = bad-carry d2q9 (n u) (flume_state_in (r (i u))) (bad u) (rules-told u) (fair v) (sym (carry-is c.before.before) ∙ not-true _ c.if-not-fair_carry.true-raw) in
    ap (λ (p : ℕ). Err (BadState p)) (cells_are (f (i u)) ∙ sym b)
    ∙ sym (skip (n u) BadLayer (place u) (six u) (shut u) ∙ stop (suc (n u)) BadState (bad_rule d2q9 (n u) (flume_state_in (r (i u)))) Done (omega (arith, b)))

pub returns : goal.returns
returns c =
    let v = unfair c.before.before in
    let u = v.before in
    let b = none-bad d2q9 (n u) (flume_state_in (r (i u))) (bad u) (rules-told u) (fair v) (sym (carry-is c.before.before) ∙ not-false _ c.if-not-fair_carry.false-raw) in
    sym (skip (n u) BadLayer (place u) (six u) (shut u) ∙ skip (suc (n u)) BadState (bad_rule d2q9 (n u) (flume_state_in (r (i u)))) Done (omega (arith, b)))
