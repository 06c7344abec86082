-- `invert::reader::read`: all the tests, and only then the lent slices. Assumes nothing.
use mathlib.Core.Path.{◌≡◌, sym, ◌∙◌, subst}
use mathlib.Core.Bool.{true}
use Prim.Native.Nat.{ℕ, ◌≤◌}
use borrow.Author.Tests.{not-true, not-false}
use mir.Syntax.{w64}
use mir.Facts.{to_z-of_z}
use Rattle.grid.specs.Grid.{cells_of}
use Rattle.grid.specs.State.{Lent, lent}
use Rattle.grid.specs.Outcome.{accepted}
use Rattle.index.specs.Index.{Index, index}
use Rattle.invert.specs.Outcome.{count_of, read_head, lengths_of}
use Rattle.invert.proofs.Tested.{Taken, head-taken, Fit, fit, edge-fits}
use Rattle.invert.proofs.Filled.{read-refused, read-accepted}
use Rattle.invert.proofs.reader.read.Lts as lts
use Rattle.invert.proofs.reader.read.Reads as reads
use Rattle.invert.proofs.reader.read.Tie as tie
use Rattle.invert.proofs.reader.read.Goals as goal

abbrev At-Start : Type 0
At-Start = lts.Start tie.the-claims reads.Pre reads.Post tie.handed_clauses

abbrev At-After-head-h : Type 0
At-After-head-h = lts.After-head tie.the-claims reads.Pre reads.Post tie.handed_clauses

abbrev At-Else-not-passed : Type 0
At-Else-not-passed = lts.Else1 tie.the-claims reads.Pre reads.Post tie.handed_clauses

abbrev At-After-count_of : Type 0
At-After-count_of = lts.After-count_of tie.the-claims reads.Pre reads.Post tie.handed_clauses

abbrev set : At-Start → Lent
set d = lent d.args.flags.now d.args.parts.now d.args.masses.now d.args.fills.now d.args.carry.now

abbrev shown : At-Start → Index
shown d = index d.args.words.now d.args.count.now

-- the head, and what an accepted one tells
is-head : (c : At-After-head-h) → let d = c in c.head-h.result ≡ read_head d.args.text.now d.args.nz d.args.oz d.args.g (lengths_of (set d.before.before.before.before.before.before) (shown d.before.before.before.before.before.before))
is-head c = rw (to_z-of_z c.ranges.oz) at c.head-h.ensures

passes : (c : At-Else-not-passed) → accepted c.head-h.result.answer ≡ true
passes c = sym c.passed.ensures ∙ not-false _ c.if-not-passed.false-raw

taken : (c : At-Else-not-passed) → let d = c in let h = c.head-h.result in Taken d.args.text.now (lengths_of (set d.before.before.before.before.before.before.before.before) (shown d.before.before.before.before.before.before.before.before)) h.sides h.settings h.site
taken c =
    let d = c in
    head-taken d.args.text.now d.args.nz d.args.oz d.args.g (lengths_of (set d.before.before.before.before.before.before.before.before) (shown d.before.before.before.before.before.before.before.before)) c.head-h.result (is-head c.before.before) (passes c)

fitting : (c : At-Else-not-passed) → let d = c in Fit (cells_of c.head-h.result.sides) (lengths_of (set d.before.before.before.before.before.before.before.before) (shown d.before.before.before.before.before.before.before.before))
fitting c = let d = c in fit (cells_of c.head-h.result.sides) (lengths_of (set d.before.before.before.before.before.before.before.before) (shown d.before.before.before.before.before.before.before.before)) (taken c).fits

edge-is : (c : At-After-count_of) → c.count_of.result ≡ count_of c.head-h.result.site.edge
edge-is c = rw (to_z-of_z {w = w64} (record { sfits = c.struct_told-1.given.0.1 })) at c.count_of.ensures

pub returns-then-not-passed : goal.returns-then-not-passed
returns-then-not-passed c =
    let d = c in
    read-refused d.args.text.now d.args.nz d.args.oz d.args.g (set d.before.before.before.before.before.before.before.before.before) (shown d.before.before.before.before.before.before.before.before.before) c.head-h.result (is-head c.before.before.before) (sym c.passed.ensures ∙ not-true _ c.if-not-passed.true-raw)

pub invert_flags-requires : goal.invert_flags-requires
invert_flags-requires c =
    let else = c in
    let h = else.head-h.result in
    let small = subst (λ (n : ℕ). n ≤ 1000) (sym (edge-is c.before)) (edge-fits h.settings h.site (taken else.before.before.before.before.before.before.before).site) in
    record { at_in_bounds = c.line_at-at.ensures.inside; sides_value = (taken else.before.before.before.before.before.before.before).sides; flags_len = (fitting else.before.before.before.before.before.before.before).flags; edge_bound = small }

pub returns : goal.returns
returns c =
    let k = c in
    let else = k in
    let d = else in
    let m = c in
    read-accepted d.args.text.now d.args.nz d.args.oz d.args.g (set d.before.before.before.before.before.before.before.before.before.before.before.before.before.before.before.before.before.before.before.before.before.before.before.before.before.before.before.before.before.before.before.before.before.before.before.before.before.before.before) (shown d.before.before.before.before.before.before.before.before.before.before.before.before.before.before.before.before.before.before.before.before.before.before.before.before.before.before.before.before.before.before.before.before.before.before.before.before.before.before.before) else.head-h.result (is-head else.before.before.before.before.before.before.before.before.before.before.before.before.before.before.before.before.before.before.before.before.before.before.before.before.before.before.before.before.before.before.before.before.before) (passes else.before.before.before.before.before.before.before.before.before.before.before.before.before.before.before.before.before.before.before.before.before.before.before.before.before.before.before.before.before.before.before) (fitting else.before.before.before.before.before.before.before.before.before.before.before.before.before.before.before.before.before.before.before.before.before.before.before.before.before.before.before.before.before.before.before)
    k.line_at-at.result k.line_at-at.ensures.rest (edge-is k.before.before.before.before.before.before.before.before.before.before.before.before.before.before.before.before.before.before.before.before.before.before.before.before.before) m.invert_flags.ensures
    m.clear_waters.ensures m.clear_waters-2.ensures m.clear_fills.ensures c.clear_totals.ensures c.clear_words.ensures c.clear_words-2.ensures
