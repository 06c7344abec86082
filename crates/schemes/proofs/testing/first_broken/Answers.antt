-- `schemes::testing::first_broken` is test 6's place: the lower of the base's on the own flags and of the first wet wall. Assumes nothing.
use borrow.Author.Rules.{sfits_of}
use mathlib.Core.Path.{◌≡◌, refl, sym, ap, ◌∙◌}
use Prim.Native.Nat.{ℕ, ◌*◌}
use native.Mathlib.Omega.{arith}
use mir.Syntax.{w64}
use mir.Facts.{to_z-of_z}
use Rattle.whole.specs.Fold.{first}
use Rattle.lattice.specs.Lattice.{d3q19}
use Rattle.grid.specs.Grid.{cells_of}
use Rattle.grid.specs.State.{Lent, lent, state_of}
use Rattle.grid.specs.Good.{bad_rule}
use Rattle.grid.proofs.Checks.{one-carry}
use Rattle.pumps.proofs.Checked.{carry-three, head-sized}
use Rattle.schemes.specs.Scheme.{wet_wall}
use Rattle.schemes.proofs.Passing.{wet-first, rule-before, none-wet}
use Rattle.schemes.proofs.testing.first_broken.Lts as lts
use Rattle.schemes.proofs.testing.first_broken.Reads as reads
use Rattle.schemes.proofs.testing.first_broken.Tie as tie
use Rattle.schemes.proofs.testing.first_broken.Goals as goal

abbrev At-Start : Type 0
At-Start = lts.Start tie.the-claims reads.Pre reads.Post

abbrev At-After-first_bad-broken : Type 0
At-After-first_bad-broken = lts.After-first_bad tie.the-claims reads.Pre reads.Post

abbrev At-After-first_wet-wetted : Type 0
At-After-first_wet-wetted = lts.After-first_wet tie.the-claims reads.Pre reads.Post

abbrev set : At-Start → Lent
set w = lent w.args.own.now w.args.parts.now w.args.masses.now w.args.fills.now w.args.carry.now

-- the two places
rule-place : (c : At-After-first_bad-broken) → c.first_bad-broken.result ≡ bad_rule d3q19 (cells_of c.args.s) (state_of 18 (set c.before.before.before.before.before))
rule-place c =
    let w = c in
    c.first_bad-broken.ensures
    ∙ one-carry _ (set w.before.before.before.before.before) _ (to_z-of_z {w = w64} (sfits_of {w = w64} c.first_bad-arg-1.given))
    ∙ ap (λ (n : ℕ). bad_rule d3q19 n (state_of 18 (set w.before.before.before.before.before))) w.requires.0.own-size

wet-place : (c : At-After-first_wet-wetted) → c.first_wet-wetted.result ≡ first (cells_of c.args.s) (wet_wall c.args.map.now c.args.own.now)
wet-place c =
    let w = c in
    c.first_wet-wetted.ensures ∙ ap (λ (n : ℕ). first n (wet_wall w.args.map.now w.args.own.now)) w.requires.0.map-size

pub bounds-carry-0 : goal.bounds-carry-0
bounds-carry-0 c = let w = c in omega (arith, carry-three w.args.s (set w.before.before.before.before) w.requires.1)

pub first_bad-broken-requires : goal.first_bad-broken-requires
first_bad-broken-requires c = let w = c in let z = head-sized w.args.s (set w.before.before.before.before.before) w.requires.1 in record {
  flags = refl;
  parts = z.parts ∙ ap (λ (n : ℕ). 19 * n) (sym w.requires.0.own-size);
  masses = z.masses ∙ sym w.requires.0.own-size;
  fills = z.fills ∙ sym w.requires.0.own-size;
  carry = refl;
}

pub first_wet-wetted-requires : goal.first_wet-wetted-requires
first_wet-wetted-requires c = let w = c in w.requires.0.own-size ∙ sym w.requires.0.map-size

pub returns-then-wetted-broken : goal.returns-then-wetted-broken
returns-then-wetted-broken c = let w = c in
    wet-first w.args.s w.args.map.now (set w.before.before.before.before.before.before.before.before.before) w.requires.0.own-size _ _ (rule-place c.before.before.before.before) (wet-place c.before.before.before)
    (omega (arith, w.requires.0.own-size, c.if-wetted-own.true)) (omega (arith, c.if-wetted-broken.true))

pub returns-else-wetted-broken : goal.returns-else-wetted-broken
returns-else-wetted-broken c = let w = c in
    rule-before w.args.s w.args.map.now (set w.before.before.before.before.before.before.before.before.before) w.requires.0.own-size _ _ (rule-place c.before.before.before.before) (wet-place c.before.before.before)
    (omega (arith, c.if-wetted-broken.false)) (omega (arith, w.requires.0.own-size, c.if-wetted-own.true))

pub returns-else-wetted-own : goal.returns-else-wetted-own
returns-else-wetted-own c = let w = c in
    none-wet w.args.s w.args.map.now (set w.before.before.before.before.before.before.before.before) w.requires.0.own-size _ _ (rule-place c.before.before.before) (wet-place c.before.before)
    (omega (arith, w.requires.0.own-size, c.if-wetted-own.false))
