-- `checks::checking::checked` goes through tests 4 to 6 as the outcome's chain has them. Assumes nothing.
use borrow.Author.Rules.{sfits_of}
use mathlib.Core.Path.{◌≡◌, ap, ◌∙◌}
use Prim.Native.Nat.{ℕ}
use native.Mathlib.Omega.{arith}
use mir.Syntax.{w64}
use mir.Facts.{to_z-of_z}
use Rattle.lattice.specs.Lattice.{d3q19}
use Rattle.grid.specs.Grid.{cells_of}
use Rattle.grid.specs.State.{Lent, lent, state_of}
use Rattle.grid.specs.Good.{bad_rule}
use Rattle.grid.proofs.Checks.{stops-at-flag, stops-at-fluid, stops-at-rule, goes_through, one-carry}
use Rattle.checks.proofs.checking.checked.Lts as lts
use Rattle.checks.proofs.checking.checked.Reads as reads
use Rattle.checks.proofs.checking.checked.Tie as tie
use Rattle.checks.proofs.checking.checked.Goals as goal

abbrev At-Start : Type 0
At-Start = lts.Start tie.the-claims reads.Pre reads.Post

abbrev At-After-first_bad-broken : Type 0
At-After-first_bad-broken = lts.After-first_bad tie.the-claims reads.Pre reads.Post

abbrev own : At-Start → Lent
own c = lent c.args.flags.now c.args.parts.now c.args.masses.now c.args.fills.now c.args.carry.now

place : (c : At-After-first_bad-broken) → c.first_bad-broken.result ≡ bad_rule d3q19 (cells_of c.args.s) (state_of 18 (own c.before.before.before.before.before.before.before.before))
place c =
    let w = c in
    c.first_bad-broken.ensures
    ∙ one-carry _ (own w.before.before.before.before.before.before.before.before) _ (to_z-of_z {w = w64} (sfits_of {w = w64} c.first_bad-arg-1.given))
    ∙ ap (λ (n : ℕ). bad_rule d3q19 n (state_of 18 (own w.before.before.before.before.before.before.before.before))) w.requires.1.flags

pub returns-then-flagged-n : goal.returns-then-flagged-n
returns-then-flagged-n c =
    let w = c in
    stops-at-flag w.args.s (own w.before.before.before.before.before) _ c.first_bad_flag-flagged.ensures (omega (arith, w.requires.1.flags, c.if-flagged-n.true))

pub returns-then-opened-n : goal.returns-then-opened-n
returns-then-opened-n c =
    let w = c in
    stops-at-fluid w.args.s (own w.before.before.before.before.before.before.before) _ c.first_bad_flag-flagged.ensures (omega (arith, w.requires.1.flags, c.if-flagged-n.false)) _ c.first_open-opened.ensures
    (omega (arith, w.requires.1.flags, c.if-opened-n.true))

pub returns-then-broken-n : goal.returns-then-broken-n
returns-then-broken-n c =
    let w = c in
    stops-at-rule w.args.s (own w.before.before.before.before.before.before.before.before.before.before) _ c.first_bad_flag-flagged.ensures (omega (arith, w.requires.1.flags, c.if-flagged-n.false)) _ c.first_open-opened.ensures
    (omega (arith, w.requires.1.flags, c.if-opened-n.false)) _ (place c.before.before) (omega (arith, w.requires.1.flags, c.if-broken-n.true))

pub returns : goal.returns
returns c =
    let w = c in
    goes_through w.args.s (own w.before.before.before.before.before.before.before.before.before.before) _ c.first_bad_flag-flagged.ensures (omega (arith, w.requires.1.flags, c.if-flagged-n.false)) _ c.first_open-opened.ensures
    (omega (arith, w.requires.1.flags, c.if-opened-n.false)) _ (place c.before.before) (omega (arith, w.requires.1.flags, c.if-broken-n.false))
