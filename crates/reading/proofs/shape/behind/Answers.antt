-- `reading::shape::behind` tests the flags, a part of the record, and then the sections behind them. Assumes nothing.
use mathlib.Core.Path.{◌≡◌, sym, ap, ap₂, ◌∙◌}
use mathlib.Core.Bool.{true}
use Prim.Native.Nat.{ℕ, ◌+◌, ◌≤◌}
use native.Mathlib.Omega.{arith}
use lib.Dec.{leb}
use borrow.Author.Tests.{le-leb, lt-leb}
use Rattle.grid.specs.Answer.{Done}
use Rattle.grid.specs.Grid.{grid_of, cells_of}
use Rattle.grid.specs.Good.{bad_flag}
use Rattle.grid.proofs.GoodSides.{good-sides}
use Rattle.record.specs.Reading.{sides_in, cells_in, flag_in, interfaces_in, liquids_in}
use Rattle.record.specs.inner.Behind.{ends, behind_flags}
use Rattle.record.proofs.Answers.{or-pass, or-fail}
use Rattle.record.proofs.Gathered.{interfaces-most, liquids-most}
use Rattle.record.proofs.FlagPart.{totals-few, interfaces-are, liquids-are, bad-flag-is}
use Rattle.reading.proofs.shape.behind.Lts as lts
use Rattle.reading.proofs.shape.behind.Reads as reads
use Rattle.reading.proofs.shape.behind.Tie as tie
use Rattle.reading.proofs.shape.behind.Goals as goal
use Rattle.grid.specs.declared.refusals.Refusal.TheVariants.{BadFlag}
use Rattle.std.specs.Prelude.{Err}

abbrev At-After-cells-n : Type 0
At-After-cells-n = lts.After-cells tie.the-claims reads.Pre reads.Post tie.handed_clauses

abbrev At-After-flags_at-at : Type 0
At-After-flags_at-at = lts.After-flags_at tie.the-claims reads.Pre reads.Post tie.handed_clauses

abbrev At-Start : Type 0
At-Start = lts.Start tie.the-claims reads.Pre reads.Post tie.handed_clauses

abbrev At-After-first_bad_flag-bad : Type 0
At-After-first_bad_flag-bad = lts.After-first_bad_flag tie.the-claims reads.Pre reads.Post tie.handed_clauses

-- N is the record's, and its flags begin where its count of section 4 says
cells_are : (c : At-After-cells-n) → c.cells-n.result ≡ cells_in c.args.rec.now
unfolding cells_in
cells_are c = c.cells-n.ensures ∙ ap cells_of c.requires.s_value

small : (c : At-After-cells-n) → c.cells-n.result ≤ 262144
unfolding cells_in cells_of
small c = let d = c in omega (arith, c.cells-n.ensures, (good-sides d.args.s d.requires.s_value_2).all)

abbrev start : At-After-flags_at-at → At-Start
start c = c.before.before.before

low : (c : At-After-flags_at-at) → c.flags_at-at.result ≤ 100
low c = omega (arith, c.flags_at-at.ensures, totals-few (start c).args.rec.now)

-- the search is test 4's
abbrev flags-at : At-After-first_bad_flag-bad → At-After-flags_at-at
flags-at c = c.before.before

bad-is : (c : At-After-first_bad_flag-bad) → let d = start (flags-at c) in c.first_bad_flag-bad.result ≡ bad_flag (grid_of (sides_in d.args.rec.now)) (flag_in d.args.rec.now)
bad-is c =
    let f = flags-at c in
    let d = start f in
    c.first_bad_flag-bad.ensures ∙ bad-flag-is d.args.rec.now (cells_are f.before) f.flags_at-at.ensures d.args.s d.requires.s_value

pub overflow_add-end : goal.overflow_add-end
overflow_add-end c = record { fits = omega (arith, small c.before.before, low c.before) }

pub slice_bounds-flags-end : goal.slice_bounds-flags-end
slice_bounds-flags-end c = omega (arith, cells_are c.before.before, c.flags_at-at.ensures, (start c.before).requires.rec_in_bounds)

pub returns-then-bad-n : goal.returns-then-bad-n
returns-then-bad-n c =
    let f = flags-at c.before.before in
    let r = (start f).args.rec.now in
    let place = bad_flag (grid_of (sides_in r)) (flag_in r) in
    let bad = bad-is c.before.before in
    ap (λ (x : ℕ). Err (BadFlag x)) bad
    ∙ sym (or-fail (BadFlag place) (ends r (behind_flags r) (interfaces_in r) (liquids_in r) Done) (lt-leb (cells_in r) place (omega (arith, c.if-bad-n.true, bad, cells_are f.before))))

pub cell_sections-requires : goal.cell_sections-requires
unfolding interfaces_in liquids_in
cell_sections-requires c =
    let f = flags-at c.before.before.before.before in
    let d = start f in
    let r = d.args.rec.now in
    let is = cells_are f.before in record { from_bound = omega (arith, small f.before, low f); i_bound = omega (arith, c.interface_cells.ensures ∙ interfaces-are r is f.flags_at-at.ensures d.requires.rec_in_bounds, interfaces-most (cells_in r) (flag_in r), is, small f.before); l_bound = omega (arith, c.liquid_cells.ensures ∙ liquids-are r is f.flags_at-at.ensures d.requires.rec_in_bounds, liquids-most (cells_in r) (flag_in r), is, small f.before) }

pub returns : goal.returns
returns c =
    let b = c in
    let f = flags-at b.before.before.before.before.before in
    let d = start f in
    let r = d.args.rec.now in
    let is = cells_are f.before in
    let place = bad_flag (grid_of (sides_in r)) (flag_in r) in
    let i = c.interface_cells.ensures ∙ interfaces-are r is f.flags_at-at.ensures d.requires.rec_in_bounds in
    let l = c.liquid_cells.ensures ∙ liquids-are r is f.flags_at-at.ensures d.requires.rec_in_bounds in
    let rest = ends r (behind_flags r) (interfaces_in r) (liquids_in r) Done in
    let none : leb (cells_in r) place ≡ true = le-leb (cells_in r) place (omega (arith, c.if-bad-n.false, bad-is b.before.before.before.before.before, is)) in
    c.cell_sections.ensures
    ∙ ap₂ (λ (j k : ℕ). ends r (j + k) c.interface_cells.result c.liquid_cells.result Done) f.flags_at-at.ensures is
    ∙ ap₂ (λ (k m : ℕ). ends r (behind_flags r) k m Done) i l
    ∙ sym (or-pass (BadFlag place) rest none)
