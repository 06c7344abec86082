-- `step::stepping::judged` is test 8: test 6's search over the second set. Assumes nothing.
use borrow.Author.Rules.{sfits_of}
use mathlib.Core.Path.{◌≡◌, refl, sym, ap, ◌∙◌}
use Prim.Native.Nat.{ℕ, suc}
use native.Mathlib.Omega.{arith}
use lib.ListN.{length}
use mir.Syntax.{w64}
use mir.Facts.{to_z-of_z}
use Rattle.lattice.specs.Lattice.{d3q19}
use Rattle.grid.specs.Answer.{Done}
use Rattle.grid.specs.State.{Lent, lent, state_of}
use Rattle.grid.specs.Good.{bad_rule}
use Rattle.grid.proofs.Accepted.{skip}
use Rattle.grid.proofs.Checks.{stop, one-carry}
use Rattle.step.proofs.stepping.judged.Lts as lts
use Rattle.step.proofs.stepping.judged.Reads as reads
use Rattle.step.proofs.stepping.judged.Tie as tie
use Rattle.step.proofs.stepping.judged.Goals as goal
use Rattle.grid.specs.declared.refusals.Refusal.TheVariants.{BadNext}
use Rattle.std.specs.Prelude.{Err}

abbrev At-Start : Type 0
At-Start = lts.Start tie.the-claims reads.Pre reads.Post

abbrev At-After-first_bad-d : Type 0
At-After-first_bad-d = lts.After-first_bad tie.the-claims reads.Pre reads.Post

abbrev At-After-first_bad-arg-1 : Type 0
At-After-first_bad-arg-1 = lts.After-first_bad-arg tie.the-claims reads.Pre reads.Post

abbrev second : At-Start → Lent
second w = lent w.args.flags2.now w.args.parts2.now w.args.masses2.now w.args.fills2.now w.args.carry2.now

abbrev broken : At-Start → ℕ
broken w = bad_rule d3q19 (length w.args.flags2.now) (state_of 18 (second w))

place : (d : At-After-first_bad-d) → d.first_bad-d.result ≡ broken d.before.before.before.before
place d =
    let after-first-bad-arg : At-After-first_bad-arg-1 = search in let w : At-Start = search in
    d.first_bad-d.ensures ∙ one-carry _ (second w) _ (to_z-of_z {w = w64} (sfits_of {w = w64} after-first-bad-arg.first_bad-arg-1.given))

pub bounds-carry2-0 : goal.bounds-carry2-0
bounds-carry2-0 c = let start : At-Start = search in omega (arith, start.requires.carry)

pub first_bad-d-requires : goal.first_bad-d-requires
first_bad-d-requires c = let start : At-Start = search in let p = start.requires in record { flags = p.flags; parts = p.parts; masses = p.masses; fills = p.fills; carry = refl }

pub returns-then-d-flags2 : goal.returns-then-d-flags2
returns-then-d-flags2 c =
    let w : At-Start = search in
    let e = place (search) in
    sym (stop (suc (length w.args.flags2.now)) BadNext (broken w) Done (omega (arith, c.if-d-flags2.true)) ∙ ap (λ (p : ℕ). Err (BadNext p)) (sym e))

pub returns : goal.returns
returns c =
    let w : At-Start = search in
    let e = place (search) in
    sym (skip (suc (length w.args.flags2.now)) BadNext (broken w) Done (omega (arith, c.if-d-flags2.false)))
