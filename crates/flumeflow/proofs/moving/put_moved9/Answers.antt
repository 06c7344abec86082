-- `flumeflow::moving::put_moved9` does stages 3 and 4 of a liquid cell: it refuses as the definition does, and else pastes the collided parts.
-- Assumes nothing.
use mathlib.Core.Path.{◌≡◌, refl, sym, ap, ◌∙◌, subst}
use mathlib.Core.List.{List}
use native.Mathlib.Omega.{arith}
use lib.IntN.{ℤ}
use lib.ListN.{length}
use borrow.Author.Tests.{not-true, not-false}
use mir.Syntax.{w32, w64}
use mir.Val.{to_z, of_z}
use mir.Facts.{to_z-of_z}
use Rattle.whole.specs.Fold.{tab}
use Rattle.lattice.specs.Cell.{relaxation_good}
use Rattle.lattice.specs.inner.Held.{parts_of, Bounded, vec}
use Rattle.lattice.specs.Body.{collided_part}
use Rattle.flow.specs.inner.Relaxed.{relaxed_by}
use Rattle.flow.proofs.Collisions.{loosened, gravity-of, flow-rho, flow-x, flow-y, flow-z, pulled-x, pulled-y, pulled-z, is-unsteady, has-passed, moved}
use Rattle.flume.specs.inner.Spread.{spread_lattice}
use Rattle.nine.specs.inner.Cells.{part_of9, pasted9}
use Rattle.nine.proofs.Pasted.{length-pasted9}
use Rattle.nine.proofs.Places.{quiet-collided}
use Rattle.flumearrivals.proofs.Nines.{density-made}
use Rattle.flumeflow.proofs.moving.put_moved9.Lts as lts
use Rattle.flumeflow.proofs.moving.put_moved9.Reads as reads
use Rattle.flumeflow.proofs.moving.put_moved9.Tie as tie
use Rattle.flumeflow.proofs.moving.put_moved9.Goals as goal

abbrev At-Start : Type 0
At-Start = lts.Start tie.the-claims reads.Pre reads.Post

abbrev At-After-relaxation9 : Type 0
At-After-relaxation9 = lts.After-relaxation9 tie.the-claims reads.Pre reads.Post

abbrev At-After-flow_of : Type 0
At-After-flow_of = lts.After-flow_of tie.the-claims reads.Pre reads.Post

abbrev At-After-pulled-v : Type 0
At-After-pulled-v = lts.After-pulled tie.the-claims reads.Pre reads.Post

abbrev At-Else-not-steady : Type 0
At-Else-not-steady = lts.Else1 tie.the-claims reads.Pre reads.Post

abbrev At-After-collided9 : Type 0
At-After-collided9 = lts.After-collided9 tie.the-claims reads.Pre reads.Post

abbrev At-After-steady : Type 0
At-After-steady = lts.After-steady tie.the-claims reads.Pre reads.Post

abbrev At-After-quieted-r : Type 0
At-After-quieted-r = lts.After-quieted tie.the-claims reads.Pre reads.Post

abbrev At-After-fair : Type 0
At-After-fair = lts.After-fair tie.the-claims reads.Pre reads.Post

abbrev At-After-paste9 : Type 0
At-After-paste9 = lts.After-paste9 tie.the-claims reads.Pre reads.Post

wide-bound : (s : At-Start) → Bounded s.args.f 1073741824 33554432
wide-bound s = loosened _ _ _ _ _ s.requires.0 (omega arith) (omega arith)

-- the relaxation as it is handed on
handed : (c : At-After-relaxation9) → to_z w64 (of_z w64 c.relaxation9.result) ≡ c.relaxation9.result
handed c = to_z-of_z {w = w64} (record { sfits = c.relaxation9.type_inv })

pub flow_of-requires : goal.flow_of-requires
flow_of-requires c = wide-bound c

pub pulled-v-requires : goal.pulled-v-requires
pulled-v-requires c =
    let s : At-Start = search in
    let b = wide-bound s in
    let r = c.flow_of.ensures.0 in
    let j = c.flow_of.ensures.1 in
    (flow-rho _ b _ r j, flow-x _ b _ r j, flow-y _ b _ r j, flow-z _ b _ r j, gravity-of _ s.requires.2)

pub steady-requires : goal.steady-requires
steady-requires c =
    let after-flow-of : At-After-flow_of = search in let s : At-Start = search in
    let b = wide-bound s in
    let r = after-flow-of.flow_of.ensures.0 in
    let j = after-flow-of.flow_of.ensures.1 in
    let g = s.requires.2 in
    (pulled-x _ b _ r j _ g _ c.pulled-v.ensures, pulled-y _ b _ r j _ g _ c.pulled-v.ensures, pulled-z _ b _ r j _ g _ c.pulled-v.ensures)

pub returns-then-not-steady : goal.returns-then-not-steady
returns-then-not-steady c flags parts fills off low l e =
    let after-steady : At-After-steady = search in let after-pulled : At-After-pulled-v = search in let after-flow-of : At-After-flow_of = search in let u = after-flow-of.flow_of.ensures in
    record {
      kept = refl;
      told = is-unsteady spread_lattice.weight flags (part_of9 parts) fills off low _ _ _ e _ _ u.0 u.1 after-pulled.pulled-v.ensures l (sym after-steady.steady.ensures ∙ not-true _ c.if-not-steady.true-raw);
      parts = tt;
    }

pub relaxation9-requires : goal.relaxation9-requires
relaxation9-requires c =
    let after-steady : At-After-steady = search in
    let s : At-Start = search in (
      s.requires.0,
      sym after-steady.steady.ensures ∙ not-false _ c.if-not-steady.false-raw,
      s.requires.2,
      s.requires.4,
      s.requires.1,
    )

pub collided9-requires : goal.collided9-requires
collided9-requires c =
    let else1 : At-Else-not-steady = search in let after-steady : At-After-steady = search in
    let s : At-Start = search in (
      s.requires.0,
      sym after-steady.steady.ensures ∙ not-false _ else1.if-not-steady.false-raw,
      ap relaxation_good (handed c) ∙ c.relaxation9.ensures.1,
      s.requires.1,
    )

pub quieted-r-requires : goal.quieted-r-requires
quieted-r-requires c = let start : At-Start = search in quiet-collided _ _ _ _ _ start.requires.1 c.collided9.ensures.0

pub fair-requires : goal.fair-requires
fair-requires c =
    let after-relaxation9 : At-After-relaxation9 = search in let after-pulled : At-After-pulled-v = search in let q : At-After-quieted-r = search in
    let k : At-After-collided9 = search in
    let s : At-Start = search in
    let v = after-pulled.pulled-v.result in (
      subst (λ (x : List ℤ). Bounded x 1073741824 33554432) (sym q.quieted-r.ensures) k.collided9.ensures.1,
      density-made v.rho (vec v) (to_z w64 (of_z w64 after-relaxation9.relaxation9.result)) s.args.f q.quieted-r.result (q.quieted-r.ensures ∙ k.collided9.ensures.0) ∙ sym (to_z-of_z {w = w32} (record { sfits = c.struct_told-1.given.0.1 })),
    )

pub returns : goal.returns
returns c flags parts fills off low l e =
    let after-fair : At-After-fair = search in let after-paste9 : At-After-paste9 = search in let after-relaxation9 : At-After-relaxation9 = search in let else1 : At-Else-not-steady = search in
    let after-pulled : At-After-pulled-v = search in let after-flow-of : At-After-flow_of = search in let w : At-After-quieted-r = search in
    let k : At-After-collided9 = search in
    let a : At-After-steady = search in
    let s : At-Start = search in
    let u = after-flow-of.flow_of.ensures in
    let made = subst (λ (p : ℤ). k.collided9.result ≡ tab 19 (collided_part spread_lattice after-pulled.pulled-v.result.rho (vec after-pulled.pulled-v.result) p (parts_of s.args.f))) (handed (search) ∙ after-relaxation9.relaxation9.ensures.0) k.collided9.ensures.0 in
    let quiet : w.quieted-r.result ≡ tab 19 (collided_part spread_lattice after-pulled.pulled-v.result.rho (vec after-pulled.pulled-v.result) (relaxed_by s.args.g.turbulent spread_lattice after-pulled.pulled-v.result.rho (vec after-pulled.pulled-v.result) s.args.g.p (parts_of s.args.f)) (parts_of s.args.f)) = w.quieted-r.ensures ∙ made in
    let put = after-paste9.paste9.ensures in
    record {
      kept = ap length put ∙ length-pasted9 _ _ _ s.requires.3;
      told = has-passed spread_lattice.weight flags (part_of9 parts) fills off low _ _ _ e _ _ u.0 u.1 after-pulled.pulled-v.ensures l w.quieted-r.result quiet _
          (sym a.steady.ensures ∙ not-false _ else1.if-not-steady.false-raw) (to_z-of_z {w = w32} (record { sfits = c.struct_told-2-1.given.0.1 })) after-fair.fair.ensures;
      parts = put ∙ ap (pasted9 s.args.parts2.now s.args.c) (moved spread_lattice.weight flags (part_of9 parts) fills off low _ _ _ e _ _ u.0 u.1 after-pulled.pulled-v.ensures l w.quieted-r.result quiet);
    }
