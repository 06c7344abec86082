-- `flow::moving::put_moved` does stages 3 and 4 of a liquid cell: it refuses as the definition does, and else pastes the collided parts. Assumes nothing.
use mathlib.Core.Path.{◌≡◌, sym, ap, ◌∙◌, subst}
use native.Mathlib.Omega.{arith}
use lib.IntN.{ℤ}
use mir.Syntax.{w32, w64}
use mir.Val.{to_z, of_z}
use mir.Facts.{to_z-of_z}
use Rattle.whole.specs.Fold.{tab}
use Rattle.lattice.specs.Lattice.{d3q19}
use Rattle.grid.specs.State.{part_of}
use Rattle.lattice.specs.Cell.{relaxation_good}
use borrow.Author.Tests.{not-true, not-false}
use Rattle.lattice.specs.inner.Held.{parts_of, Bounded, vec}
use Rattle.lattice.specs.Body.{collided_part}
use Rattle.flow.proofs.Collisions.{loosened, gravity-of, flow-rho, flow-x, flow-y, flow-z, pulled-x, pulled-y, pulled-z, put_refused, put-accepted}
use Rattle.flow.proofs.Gentle.{follows}
use Rattle.flow.proofs.moving.put_moved.Lts as lts
use Rattle.flow.proofs.moving.put_moved.Reads as reads
use Rattle.flow.proofs.moving.put_moved.Tie as tie
use Rattle.flow.proofs.moving.put_moved.Goals as goal

abbrev At-After-steady : Type 0
At-After-steady = lts.After-steady tie.the-claims reads.Pre reads.Post

abbrev At-After-collided-r : Type 0
At-After-collided-r = lts.After-collided tie.the-claims reads.Pre reads.Post

abbrev At-After-fair : Type 0
At-After-fair = lts.After-fair tie.the-claims reads.Pre reads.Post

abbrev At-After-paste : Type 0
At-After-paste = lts.After-paste tie.the-claims reads.Pre reads.Post

wide-bound : (s : goal.Start) → Bounded s.args.f 1073741824 33554432
wide-bound s = loosened _ _ _ _ _ s.requires.0 (omega arith) (omega arith)

-- the relaxation as it is handed on
handed : (c : goal.After-relaxation) → to_z w64 (of_z w64 c.relaxation.result) ≡ c.relaxation.result
handed c = to_z-of_z {w = w64} (record { sfits = c.relaxation.type_inv })

pub flow_of-requires : goal.flow_of-requires
flow_of-requires c = wide-bound c

pub pulled-v-requires : goal.pulled-v-requires
pulled-v-requires c =
    let s : goal.Start = search in
    let b = wide-bound s in
    let r = c.flow_of.ensures.0 in
    let j = c.flow_of.ensures.1 in
    (flow-rho _ b _ r j, flow-x _ b _ r j, flow-y _ b _ r j, flow-z _ b _ r j, gravity-of _ s.requires.1)

pub steady-requires : goal.steady-requires
steady-requires c =
    let after-flow-of : goal.After-flow_of = search in let s : goal.Start = search in
    let b = wide-bound s in
    let r = after-flow-of.flow_of.ensures.0 in
    let j = after-flow-of.flow_of.ensures.1 in
    let g = s.requires.1 in
    (pulled-x _ b _ r j _ g _ c.pulled-v.ensures, pulled-y _ b _ r j _ g _ c.pulled-v.ensures, pulled-z _ b _ r j _ g _ c.pulled-v.ensures)

pub returns-then-not-steady : goal.returns-then-not-steady
returns-then-not-steady c flags parts fills off low l e =
    let after-steady : At-After-steady = search in let after-pulled : goal.After-pulled-v = search in let after-flow-of : goal.After-flow_of = search in let s : goal.Start = search in
    let u = after-flow-of.flow_of.ensures in
    put_refused d3q19.weight flags (part_of parts) fills off low _ _ _ e _ _ u.0 u.1 after-pulled.pulled-v.ensures l _
    (sym after-steady.steady.ensures ∙ not-true _ c.if-not-steady.true-raw)

pub relaxation-requires : goal.relaxation-requires
relaxation-requires c =
    let after-steady : At-After-steady = search in
    let s : goal.Start = search in (
      s.requires.0,
      sym after-steady.steady.ensures ∙ not-false _ c.if-not-steady.false-raw,
      s.requires.1,
      s.requires.3,
    )

pub collided-r-requires : goal.collided-r-requires
collided-r-requires c =
    let else1 : goal.Else-not-steady = search in let after-steady : At-After-steady = search in
    let s : goal.Start = search in (
      s.requires.0,
      sym after-steady.steady.ensures ∙ not-false _ else1.if-not-steady.false-raw,
      ap relaxation_good (handed c) ∙ c.relaxation.ensures.1,
    )

pub fair-requires : goal.fair-requires
fair-requires c =
    let else1 : goal.Else-not-steady = search in let after-steady : At-After-steady = search in let after-pulled : goal.After-pulled-v = search in let after-flow-of : goal.After-flow_of = search in
    let after-relaxation : goal.After-relaxation = search in let k : At-After-collided-r = search in
    let s : goal.Start = search in
    let steady = sym after-steady.steady.ensures ∙ not-false _ else1.if-not-steady.false-raw in (
      k.collided-r.ensures.1,
      steady,
      follows s.args.f k.collided-r.result after-flow-of.flow_of.result after-pulled.pulled-v.result s.args.g _ s.requires.1
          (ap relaxation_good (handed after-relaxation) ∙ after-relaxation.relaxation.ensures.1) steady after-flow-of.flow_of.ensures.1 after-pulled.pulled-v.ensures k.collided-r.ensures.0,
    )

pub returns : goal.returns
returns c flags parts fills off low l e =
    let after-fair : At-After-fair = search in let after-paste : At-After-paste = search in let after-relaxation : goal.After-relaxation = search in let else1 : goal.Else-not-steady = search in let after-pulled : goal.After-pulled-v = search in
    let after-flow-of : goal.After-flow_of = search in let k : At-After-collided-r = search in
    let a : At-After-steady = search in
    let s : goal.Start = search in
    let u = after-flow-of.flow_of.ensures in
    put-accepted d3q19.weight flags (part_of parts) fills off low _ _ _ e _ _ u.0 u.1 after-pulled.pulled-v.ensures l k.collided-r.result
    (subst (λ (p : ℤ). k.collided-r.result ≡ tab 19 (collided_part d3q19 after-pulled.pulled-v.result.rho (vec after-pulled.pulled-v.result) p (parts_of s.args.f))) (handed (search) ∙ after-relaxation.relaxation.ensures.0) k.collided-r.ensures.0)
    _ _ _ s.requires.2 after-paste.paste.ensures
    (sym a.steady.ensures ∙ not-false _ else1.if-not-steady.false-raw)
    (to_z-of_z {w = w32} (record { sfits = c.struct_told-1.given.0.1 }))
    after-fair.fair.ensures
