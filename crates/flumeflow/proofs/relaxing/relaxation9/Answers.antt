-- `flumeflow::relaxing::relaxation9`: p, or the cell's own by its stress. Assumes nothing.
use mathlib.Core.Path.{◌≡◌, ap, ◌∙◌}
use mathlib.Core.Bool.{true}
use native.Mathlib.Omega.{arith}
use mir.Syntax.{w64}
use mir.Val.{to_z, of_z}
use mir.Facts.{to_z-of_z}
use borrow.Author.Tests.{not-true, not-false}
use Rattle.lattice.specs.Cell.{relaxation_good}
use Rattle.turbulence.proofs.Laws.{keeps-none}
use Rattle.flow.proofs.Collisions.{loosened, relaxation-of}
use Rattle.flow.proofs.Paces.{plain-is, own_is}
use Rattle.flumeflow.proofs.relaxing.relaxation9.Lts as lts
use Rattle.flumeflow.proofs.relaxing.relaxation9.Reads as reads
use Rattle.flumeflow.proofs.relaxing.relaxation9.Tie as tie
use Rattle.flumeflow.proofs.relaxing.relaxation9.Goals as goal

abbrev At-Start : Type 0
At-Start = lts.Start tie.the-claims reads.Pre reads.Post

abbrev At-Then-not-g : Type 0
At-Then-not-g = lts.Then1 tie.the-claims reads.Pre reads.Post

abbrev At-Else-not-g : Type 0
At-Else-not-g = lts.Else1 tie.the-claims reads.Pre reads.Post

abbrev At-After-struct_told-then-surface-1 : Type 0
At-After-struct_told-then-surface-1 = lts.After-struct_told2 tie.the-claims reads.Pre reads.Post

abbrev At-After-struct_told-2-1 : Type 0
At-After-struct_told-2-1 = lts.After-struct_told3 tie.the-claims reads.Pre reads.Post

good : (s : At-Start) → relaxation_good s.args.g.p ≡ true
good s = relaxation-of s.args.g s.requires.2

pub returns-then-not-g : goal.returns-then-not-g
returns-then-not-g c =
    let then1 : At-Then-not-g = search in let s : At-Start = search in
    let e : to_z w64 (of_z w64 s.args.g.p) ≡ s.args.g.p = to_z-of_z {w = w64} (record { sfits = c.struct_told-1.given.0.1 }) in
    (e ∙ plain-is _ _ _ _ _ _ (not-true _ then1.if-not-g.true), ap relaxation_good e ∙ good s)

pub own_relaxation9-requires : goal.own_relaxation9-requires
own_relaxation9-requires c =
    let s : At-Start = search in
    let e : to_z w64 (of_z w64 s.args.g.p) ≡ s.args.g.p = to_z-of_z {w = w64} (record { sfits = c.struct_told-then-surface-1.given.0.1 }) in
    (loosened _ _ _ _ _ s.requires.0 (omega arith) (omega arith), s.requires.1, ap relaxation_good e ∙ good s, rw e (keeps-none s.args.g.p (good s)), s.requires.4)

pub returns-then-surface : goal.returns-then-surface
returns-then-surface c =
    let else1 : At-Else-not-g = search in let t : At-After-struct_told-then-surface-1 = search in
    let s : At-Start = search in
    let e : to_z w64 (of_z w64 s.args.g.p) ≡ s.args.g.p = to_z-of_z {w = w64} (record { sfits = t.struct_told-then-surface-1.given.0.1 }) in
    let r : to_z w64 (of_z w64 c.own_relaxation9.result) ≡ c.own_relaxation9.result = to_z-of_z {w = w64} (record { sfits = c.own_relaxation9.type_inv }) in (
      r ∙ rw e at c.own_relaxation9.ensures.0 ∙ own_is _ _ _ _ _ _ (not-false _ else1.if-not-g.false),
      ap relaxation_good r ∙ c.own_relaxation9.ensures.1,
    )

pub own_relaxation9-requires-2 : goal.own_relaxation9-requires-2
own_relaxation9-requires-2 c =
    let s : At-Start = search in
    let e : to_z w64 (of_z w64 s.args.g.p) ≡ s.args.g.p = to_z-of_z {w = w64} (record { sfits = c.struct_told-2-1.given.0.1 }) in
    (loosened _ _ _ _ _ s.requires.0 (omega arith) (omega arith), s.requires.1, ap relaxation_good e ∙ good s, rw e s.requires.3, s.requires.4)

pub returns : goal.returns
returns c =
    let else1 : At-Else-not-g = search in let t : At-After-struct_told-2-1 = search in
    let s : At-Start = search in
    let e : to_z w64 (of_z w64 s.args.g.p) ≡ s.args.g.p = to_z-of_z {w = w64} (record { sfits = t.struct_told-2-1.given.0.1 }) in
    let r : to_z w64 (of_z w64 c.own_relaxation9-2.result) ≡ c.own_relaxation9-2.result = to_z-of_z {w = w64} (record { sfits = c.own_relaxation9-2.type_inv }) in (
      r ∙ rw e at c.own_relaxation9-2.ensures.0 ∙ own_is _ _ _ _ _ _ (not-false _ else1.if-not-g.false),
      ap relaxation_good r ∙ c.own_relaxation9-2.ensures.1,
    )
