-- `flumereading::shape::behind` tests the flags, a part of the record, and then the sections behind them. Assumes nothing.
use mathlib.Core.Path.{◌≡◌, sym, ap, ap₂, ◌∙◌}
use mathlib.Core.Bool.{true}
use Prim.Native.Nat.{ℕ, ◌+◌, ◌*◌, ◌≤◌}
use native.Mathlib.Omega.{arith}
use lib.Dec.{leb}
use lib.ListN.{length}
use borrow.Author.Tests.{le-leb, lt-leb}
use Rattle.grid.specs.Answer.{Done}
use Rattle.flume.specs.Flume.{flume_grid, flume_cells}
use Rattle.grid.specs.Good.{bad_flag}
use Rattle.flumegrid.proofs.GoodSides.{few}
use Rattle.record.specs.Reading.{ends_on}
use Rattle.flumerecord.specs.Reading.{flume_sides_in, flume_cells_in, flume_flag_in, flume_interfaces_in, flume_liquids_in}
use Rattle.record.proofs.Answers.{or-pass, or-fail}
use Rattle.record.proofs.Gathered.{interfaces-most, liquids-most}
use Rattle.flumereading.proofs.Flags.{flags-are, length-flags, interfaces-are, liquids-are, bad-flag-is}
use Rattle.flumereading.proofs.shape.behind.Lts as lts
use Rattle.flumereading.proofs.shape.behind.Reads as reads
use Rattle.flumereading.proofs.shape.behind.Tie as tie
use Rattle.flumereading.proofs.shape.behind.Goals as goal
use Rattle.grid.specs.declared.refusals.Refusal.TheVariants.{BadFlag}
use Rattle.std.specs.Prelude.{Err}

abbrev At-After-cells-n : Type 0
At-After-cells-n = lts.After-cells tie.the-claims reads.Pre reads.Post tie.handed_clauses

abbrev At-Start : Type 0
At-Start = lts.Start tie.the-claims reads.Pre reads.Post tie.handed_clauses

abbrev At-After-first_bad_flag-bad : Type 0
At-After-first_bad_flag-bad = lts.After-first_bad_flag tie.the-claims reads.Pre reads.Post tie.handed_clauses

-- N is the record's
cells_are : (c : At-After-cells-n) → c.cells-n.result ≡ flume_cells_in c.args.rec.now
unfolding flume_cells_in
cells_are c = c.cells-n.ensures ∙ ap flume_cells c.requires.s_value

small : (c : At-After-cells-n) → c.cells-n.result ≤ 262144
small c = let d = c in omega (arith, c.cells-n.ensures, few d.args.s d.requires.s_value_2)

abbrev start : At-After-cells-n → At-Start
start c = c.before.before

-- the search is test 4's
abbrev counted : At-After-first_bad_flag-bad → At-After-cells-n
counted c = c.before.before

bad-is : (c : At-After-first_bad_flag-bad) → let d = start (counted c) in c.first_bad_flag-bad.result ≡ bad_flag (flume_grid (flume_sides_in d.args.rec.now)) (flume_flag_in d.args.rec.now)
bad-is c =
    let f = counted c in
    let d = start f in
    c.first_bad_flag-bad.ensures ∙ bad-flag-is d.args.rec.now (cells_are f) d.args.s d.requires.s_value

pub overflow_add-end : goal.overflow_add-end
overflow_add-end c = record { fits = omega (arith, small c.before) }

pub slice_bounds-flags-end : goal.slice_bounds-flags-end
slice_bounds-flags-end c = omega (arith, cells_are c.before, (start c.before).requires.rec_in_bounds)

pub first_bad_flag-bad-requires : goal.first_bad_flag-bad-requires
first_bad_flag-bad-requires c =
    let f = c in
    let d = start f.before.before in
    let r = d.args.rec.now in
    (d.requires.s_value_2, ap length (flags-are r (cells_are f.before.before)) ∙ length-flags r (cells_are f.before.before) d.requires.rec_in_bounds ∙ sym (cells_are f.before.before) ∙ f.cells-n.ensures)

pub returns-then-bad-n : goal.returns-then-bad-n
returns-then-bad-n c =
    let f = counted c.before.before in
    let r = (start f).args.rec.now in
    let place = bad_flag (flume_grid (flume_sides_in r)) (flume_flag_in r) in
    let bad = bad-is c.before.before in
    ap (λ (x : ℕ). Err (BadFlag x)) bad
    ∙ sym (or-fail (BadFlag place) (ends_on r (68 + flume_cells_in r) (flume_interfaces_in r) (9 * flume_liquids_in r) Done) (lt-leb (flume_cells_in r) place (omega (arith, c.if-bad-n.true, bad, cells_are f))))

pub overflow_mul-liquid_cells : goal.overflow_mul-liquid_cells
overflow_mul-liquid_cells c =
    let f = counted c.before.before.before.before in
    let r = (start f).args.rec.now in
    record { fits = omega (arith, c.liquid_cells.ensures ∙ liquids-are r (cells_are f) (start f).requires.rec_in_bounds, liquids-most (flume_cells_in r) (flume_flag_in r), cells_are f, small f) }

pub sections_to_end-requires : goal.sections_to_end-requires
sections_to_end-requires c =
    let f = counted c.before.before.before.before in
    let d = start f in
    let r = d.args.rec.now in
    let is = cells_are f in record { from_bound = omega (arith, small f); i_bound = omega (arith, c.interface_cells.ensures ∙ interfaces-are r is d.requires.rec_in_bounds, interfaces-most (flume_cells_in r) (flume_flag_in r), is, small f); m_bound = omega (arith, c.liquid_cells.ensures ∙ liquids-are r is d.requires.rec_in_bounds, liquids-most (flume_cells_in r) (flume_flag_in r), is, small f) }

pub returns : goal.returns
returns c =
    let b = c in
    let f = counted b.before.before.before.before.before in
    let d = start f in
    let r = d.args.rec.now in
    let is = cells_are f in
    let place = bad_flag (flume_grid (flume_sides_in r)) (flume_flag_in r) in
    let i = c.interface_cells.ensures ∙ interfaces-are r is d.requires.rec_in_bounds in
    let l = c.liquid_cells.ensures ∙ liquids-are r is d.requires.rec_in_bounds in
    let rest = ends_on r (68 + flume_cells_in r) (flume_interfaces_in r) (9 * flume_liquids_in r) Done in
    let none : leb (flume_cells_in r) place ≡ true = le-leb (flume_cells_in r) place (omega (arith, c.if-bad-n.false, bad-is b.before.before.before.before.before, is)) in
    c.sections_to_end.ensures
    ∙ ap (λ (k : ℕ). ends_on r (68 + k) c.interface_cells.result (9 * c.liquid_cells.result) Done) is
    ∙ ap₂ (λ (k m : ℕ). ends_on r (68 + flume_cells_in r) k (9 * m) Done) i l
    ∙ sym (or-pass (BadFlag place) rest none)
