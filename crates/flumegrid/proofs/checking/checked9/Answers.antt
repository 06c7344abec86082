-- `flumegrid::checking::checked9` goes through tests 4 to 6 as the outcome's chain has them. Assumes nothing.
use borrow.Author.Rules.{sfits_of}
use mathlib.Core.Path.{◌≡◌, ap, ◌∙◌}
use Prim.Native.Nat.{ℕ}
use native.Mathlib.Omega.{arith}
use mir.Syntax.{w64}
use mir.Facts.{to_z-of_z}
use Rattle.lattice.specs.Lattice.{d2q9}
use Rattle.grid.specs.Grid.{flume}
use Rattle.flume.specs.Flume.{flume_cells, flume_grid}
use Rattle.grid.specs.State.{Lent, lent, state_of}
use Rattle.grid.specs.Good.{bad_rule}
use Rattle.flumegrid.proofs.Checks.{stops-at-flag, stops-at-fluid, stops-at-rule, goes_through, one-carry}
use Rattle.flumegrid.proofs.checking.checked9.Lts as lts
use Rattle.flumegrid.proofs.checking.checked9.Reads as reads
use Rattle.flumegrid.proofs.checking.checked9.Tie as tie
use Rattle.flumegrid.proofs.checking.checked9.Goals as goal

abbrev At-Start : Type 0
At-Start = lts.Start tie.the-claims reads.Pre reads.Post

abbrev At-After-first_bad9-broken : Type 0
At-After-first_bad9-broken = lts.After-first_bad9 tie.the-claims reads.Pre reads.Post

abbrev own : At-Start → Lent
own c = lent c.args.flags.now c.args.parts.now c.args.masses.now c.args.fills.now c.args.carry.now

place : (c : At-After-first_bad9-broken) → c.first_bad9-broken.result ≡ bad_rule d2q9 (flume_cells c.args.s) (state_of 8 (own c.before.before.before.before.before.before.before.before))
place c =
    let w = c in
    c.first_bad9-broken.ensures
    ∙ one-carry _ (own w.before.before.before.before.before.before.before.before) _ (to_z-of_z {w = w64} (sfits_of {w = w64} c.first_bad9-arg-1.given))
    ∙ ap (λ (n : ℕ). bad_rule d2q9 n (state_of 8 (own w.before.before.before.before.before.before.before.before))) w.requires.1.flags

pub returns-then-flagged-n : goal.returns-then-flagged-n
unfolding flume_grid flume flume_cells d2q9 state_of
returns-then-flagged-n c =
    let w = c in
    stops-at-flag d2q9 (flume_grid w.args.s) (state_of 8 (own w.before.before.before.before.before)) _ c.first_bad_flag-flagged.ensures (omega (arith, w.requires.1.flags, c.if-flagged-n.true))

pub returns-then-opened-n : goal.returns-then-opened-n
unfolding flume_grid flume flume_cells d2q9 state_of
returns-then-opened-n c =
    let w = c in
    stops-at-fluid d2q9 (flume_grid w.args.s) (state_of 8 (own w.before.before.before.before.before.before.before)) _ c.first_bad_flag-flagged.ensures (omega (arith, w.requires.1.flags, c.if-flagged-n.false)) _ c.first_open-opened.ensures
    (omega (arith, w.requires.1.flags, c.if-opened-n.true))

pub returns-then-broken-n : goal.returns-then-broken-n
unfolding flume_grid flume flume_cells d2q9 state_of
returns-then-broken-n c =
    let w = c in
    stops-at-rule d2q9 (flume_grid w.args.s) (state_of 8 (own w.before.before.before.before.before.before.before.before.before.before)) _ c.first_bad_flag-flagged.ensures (omega (arith, w.requires.1.flags, c.if-flagged-n.false)) _ c.first_open-opened.ensures
    (omega (arith, w.requires.1.flags, c.if-opened-n.false)) _ (place c.before.before) (omega (arith, w.requires.1.flags, c.if-broken-n.true))

pub returns : goal.returns
unfolding flume_grid flume flume_cells d2q9 state_of
returns c =
    let w = c in
    goes_through d2q9 (flume_grid w.args.s) (state_of 8 (own w.before.before.before.before.before.before.before.before.before.before)) _ c.first_bad_flag-flagged.ensures (omega (arith, w.requires.1.flags, c.if-flagged-n.false)) _ c.first_open-opened.ensures
    (omega (arith, w.requires.1.flags, c.if-opened-n.false)) _ (place c.before.before) (omega (arith, w.requires.1.flags, c.if-broken-n.false))
