-- `profile::testing::opened`: each return is the definition with the tests that led there. Assumes nothing.
use borrow.Author.Tests.{eq-eqb, ne_eqb, le-leb, lt-leb}
use mathlib.Core.Path.{◌≡◌, sym, ap, ◌∙◌}
use mathlib.Core.Bool.{true}
use native.Mathlib.Omega.{arith}
use lib.Dec.{leb}
use mir.Syntax.{w64}
use mir.ValLaws.{to_z-of_z}
use Rattle.std.specs.Prelude.{ℕ, Result}
use Rattle.grid.specs.declared.refusals.Refusal.{Refusal}
use Rattle.tunnel.specs.declared.Depth.{Depth}
use Rattle.tunnel.specs.Place.{placed_number}
use Rattle.tunnel.specs.Depth.{Reading, reading_number, told_of, DepthIs}
use Rattle.tunnel.proofs.Cases.{tells}
use Rattle.profile.specs.Outcome.{open_answer}
use Rattle.profile.proofs.testing.opened.Goals as goal

-- what depth's number tells
numbered : {n : ℕ} {a : Result Depth Refusal} {w : Reading} → DepthIs a w → n ≡ (told_of a).number → reading_number w ≡ n
numbered h e = sym (e ∙ (tells h).number_is)

pub returns-then-n-eq1 : goal.returns-then-n-eq1
unfolding open_answer
returns-then-n-eq1 c = simp (numbered c.column_depth.ensures c.depth_number-n.ensures, eq-eqb _ _ c.if-n-eq1.true)

pub returns-then-n-eq2 : goal.returns-then-n-eq2
unfolding open_answer
returns-then-n-eq2 c = simp (numbered c.column_depth.ensures c.depth_number-n.ensures, ne_eqb _ _ c.if-n-eq1.false, eq-eqb _ _ c.if-n-eq2.true)

pub returns-then-not-whole : goal.returns-then-not-whole
unfolding open_answer
returns-then-not-whole c =
    simp (numbered c.column_depth.ensures c.depth_number-n.ensures, ne_eqb _ _ c.if-n-eq1.false, ne_eqb _ _ c.if-n-eq2.false, ← c.if-not-whole.ensures)

pub returns-then-m-eq0 : goal.returns-then-m-eq0
unfolding open_answer
returns-then-m-eq0 c =
    simp (
      numbered c.column_depth.ensures c.depth_number-n.ensures,
      ne_eqb _ _ c.if-n-eq1.false,
      ne_eqb _ _ c.if-n-eq2.false,
      ← c.if-not-whole.ensures,
      eq-eqb _ _ c.if-m-eq0.true,
    )

pub returns-then-m-gt2000 : goal.returns-then-m-gt2000
unfolding open_answer
returns-then-m-gt2000 c =
    simp (
      numbered c.column_depth.ensures c.depth_number-n.ensures,
      ne_eqb _ _ c.if-n-eq1.false,
      ne_eqb _ _ c.if-n-eq2.false,
      ← c.if-not-whole.ensures,
      ne_eqb _ _ c.if-m-eq0.false,
      lt-leb _ _ c.if-m-gt2000.true,
    )

pub returns-then-refusal_number-eq3 : goal.returns-then-refusal_number-eq3
unfolding open_answer
returns-then-refusal_number-eq3 c =
    let few : leb c.args.m 2000 ≡ true = le-leb _ _ (omega arith) in
    let e = to_z-of_z w64 c.args.f.edge (record { sfits = c.struct_told-1.given.1.0.1 }) in
    simp (
      numbered c.column_depth.ensures c.depth_number-n.ensures,
      ne_eqb _ _ c.if-n-eq1.false,
      ne_eqb _ _ c.if-n-eq2.false,
      ← c.if-not-whole.ensures,
      ne_eqb _ _ c.if-m-eq0.false,
      few,
      sym (c.refusal_number.ensures ∙ ap placed_number (rw e at c.place.ensures)),
      eq-eqb _ _ c.if-refusal_number-eq3.true,
    )

pub returns : goal.returns
unfolding open_answer
returns c =
    let few : leb c.args.m 2000 ≡ true = le-leb _ _ (omega arith) in
    let e = to_z-of_z w64 c.args.f.edge (record { sfits = c.struct_told-1.given.1.0.1 }) in
    simp (
      numbered c.column_depth.ensures c.depth_number-n.ensures,
      ne_eqb _ _ c.if-n-eq1.false,
      ne_eqb _ _ c.if-n-eq2.false,
      ← c.if-not-whole.ensures,
      ne_eqb _ _ c.if-m-eq0.false,
      few,
      sym (c.refusal_number.ensures ∙ ap placed_number (rw e at c.place.ensures)),
      ne_eqb _ _ c.if-refusal_number-eq3.false,
    )
