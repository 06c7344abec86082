-- `schemes::testing::checked` goes through tests 4 to 6 as the outcome's chain has them. Assumes nothing.
use borrow.Author.Rules.{sfits_of}
use borrow.Author.Tests.{not-true, not-false}
use mathlib.Core.Path.{◌≡◌, sym, ◌∙◌}
use native.Mathlib.Omega.{arith}
use lib.IntN.{pos}
use lib.ListN.{get_or}
use mir.Syntax.{w64}
use mir.Facts.{to_z-of_z}
use Rattle.grid.specs.State.{Lent, lent}
use Rattle.pumps.specs.Three.{totals_good}
use Rattle.pumps.proofs.Checked.{carry-three}
use Rattle.schemes.proofs.Answers.{stops-at-mark, marked, stops-at-open, stops-at-rule, stops-at-totals, goes_through}
use Rattle.schemes.proofs.testing.checked.Lts as lts
use Rattle.schemes.proofs.testing.checked.Reads as reads
use Rattle.schemes.proofs.testing.checked.Tie as tie
use Rattle.schemes.proofs.testing.checked.Goals as goal

abbrev At-Start : Type 0
At-Start = lts.Start tie.the-claims reads.Pre reads.Post

abbrev At-Else-broken-n : Type 0
At-Else-broken-n = lts.Else3 tie.the-claims reads.Pre reads.Post

abbrev At-After-good_totals : Type 0
At-After-good_totals = lts.After-good_totals tie.the-claims reads.Pre reads.Post

abbrev set : At-Start → Lent
set w = lent w.args.own.now w.args.parts.now w.args.masses.now w.args.fills.now w.args.carry.now

-- the cells have passed
abbrev start : At-Else-broken-n → At-Start
start d = d.before.before.before.before.before.before.before.before.before

-- the two totals
totals : (c : At-After-good_totals) → let a = (start c.before.before.before).args in
    c.good_totals.result ≡ totals_good (get_or a.carry.now 1 (pos 0)) (get_or a.carry.now 2 (pos 0))
totals c =
    rw (to_z-of_z (sfits_of {w = w64} c.good_totals-arg-1.given), to_z-of_z (sfits_of {w = w64} c.good_totals-arg-2-1.given))
    at c.good_totals.ensures

pub first_bad_mark-marked-requires : goal.first_bad_mark-marked-requires
first_bad_mark-marked-requires c = c.requires.0

pub returns-then-marked-n : goal.returns-then-marked-n
returns-then-marked-n c = let w = c in stops-at-mark w.args.s w.args.map.now (set w.before.before.before.before.before.before) _ c.first_bad_mark-marked.ensures (omega (arith, w.requires.0.map-size, c.if-marked-n.true))

pub first_open-open-requires : goal.first_open-open-requires
first_open-open-requires c = let w = c in marked w.args.s w.args.map.now (set w.before.before.before.before.before.before) _ c.first_bad_mark-marked.ensures (omega (arith, w.requires.0.map-size, c.if-marked-n.false)) w.requires.0

pub returns-then-open-n : goal.returns-then-open-n
returns-then-open-n c = let w = c in
    stops-at-open w.args.s w.args.map.now (set w.before.before.before.before.before.before.before.before) _ c.first_bad_mark-marked.ensures (omega (arith, w.requires.0.map-size, c.if-marked-n.false)) _ c.first_open-open.ensures
    (omega (arith, w.requires.0.map-size, c.if-open-n.true))

pub first_broken-broken-requires : goal.first_broken-broken-requires
first_broken-broken-requires c = c.requires

pub returns-then-broken-n : goal.returns-then-broken-n
returns-then-broken-n c = let w = c in
    stops-at-rule w.args.s w.args.map.now (set w.before.before.before.before.before.before.before.before.before.before) _ c.first_bad_mark-marked.ensures (omega (arith, w.requires.0.map-size, c.if-marked-n.false)) _ c.first_open-open.ensures
    (omega (arith, w.requires.0.map-size, c.if-open-n.false)) _ c.first_broken-broken.ensures (omega (arith, w.requires.0.map-size, c.if-broken-n.true))

pub bounds-carry-1 : goal.bounds-carry-1
bounds-carry-1 c = let w = start c.before in omega (arith, carry-three w.args.s (set w) w.requires.1)

pub bounds-carry-2 : goal.bounds-carry-2
bounds-carry-2 c = let w = start c.before.before in omega (arith, carry-three w.args.s (set w) w.requires.1)

pub returns-then-not-good_totals : goal.returns-then-not-good_totals
returns-then-not-good_totals c =
    let d = c in
    let w = start d.before.before.before.before.before in
    stops-at-totals w.args.s w.args.map.now (set w) _ d.first_bad_mark-marked.ensures (omega (arith, w.requires.0.map-size, d.if-marked-n.false)) _ d.first_open-open.ensures
    (omega (arith, w.requires.0.map-size, d.if-open-n.false)) _ d.first_broken-broken.ensures (omega (arith, w.requires.0.map-size, d.if-broken-n.false))
    w.requires.0.map-size (sym (totals c.before.before) ∙ not-true _ c.if-not-good_totals.true-raw)

pub returns : goal.returns
returns c =
    let d = c in
    let w = start d.before.before.before.before.before in
    goes_through w.args.s w.args.map.now (set w) _ d.first_bad_mark-marked.ensures (omega (arith, w.requires.0.map-size, d.if-marked-n.false)) _ d.first_open-open.ensures
    (omega (arith, w.requires.0.map-size, d.if-open-n.false)) _ d.first_broken-broken.ensures (omega (arith, w.requires.0.map-size, d.if-broken-n.false))
    (sym (totals c.before.before) ∙ not-false _ c.if-not-good_totals.false-raw)
