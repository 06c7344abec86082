use mathlib.Core.Path.{◌≡◌, refl, sym, ap, ap₂, ◌∙◌}
use mathlib.Core.List.{[]}
use Prim.Native.Nat.{ℕ, ◌+◌, ◌*◌}
use native.Mathlib.Nat.{add-zero}
use native.Mathlib.Omega.{arith}
use borrow.Author.Rules.{rules}
use lib.IntN.{pos}
use lib.ListN.{get_or, replicate}
use Rattle.grid.specs.Step.{arrives, streamed}
use Rattle.arrivals.proofs.Arrivals.{streamed-rest, streamed-odd, streamed-even}
use Rattle.arrivals.proofs.Leans.{entry, leans-read}
use Rattle.arrivals.proofs.Spans.{bounded-own, flows-own, tame-body}
use Rattle.flume.specs.inner.Spread.{wide, spread_lattice}
use Rattle.nine.specs.inner.Cells.{part_of9}
use Rattle.nine.proofs.Places.{filled_zero, filled_more, filled-all}
use Rattle.flumearrivals.specs.inner.Seen.{sight9}
use Rattle.flumearrivals.proofs.Nines.{nth-pair, nth-second, part-at, streamed-spread, filled-pair}
use Rattle.flumeflow.proofs.streaming.streamed9.Goals as goal

pub flow_of-v-requires : goal.flow_of-v-requires
unfolding part_of9
flow_of-v-requires c = bounded-own _ (c.requires.0.bodies.body _ c.requires.2.is-cell c.requires.3) _ c.own9.ensures _ _ (omega arith) (omega arith)

pub dots-d-requires : goal.dots-d-requires
unfolding part_of9
dots-d-requires c =
    let b = c.requires.0.bodies.body _ c.requires.2.is-cell c.requires.3 in
    let w = flows-own (part_of9 c.args.parts.now) c.args.c b c.own9.ensures c.flow_of-v.ensures in
    let t = tame-body _ b c.flow_of-v.result w.density w.momentum in
    (record { abs = omega (arith, t.x.abs) }, record { abs = omega (arith, t.y.abs) }, record { abs = omega (arith, t.z.abs) })

pub loop-pair-init : goal.loop-pair-init
unfolding wide
loop-pair-init c g =
    filled_more (λ (k : ℕ). streamed (sight9 c.args.flags.now c.args.parts.now [] c.args.fills.now c.args.off.now c.args.low g) c.args.c (wide k)) (replicate 19 (pos 0)) 0 0 _ (filled_zero _) (omega arith) refl (omega arith)
    (search rules ∙ ap (λ n. get_or c.args.parts.now n (pos 0)) (sym (add-zero (9 * c.args.c))) ∙ sym (part-at c.args.parts.now c.args.c 0 (omega arith)) ∙ sym (streamed-rest _ _ _ _ _ _ _ _))

pub arriving9-requires : goal.arriving9-requires
unfolding part_of9
arriving9-requires c = record {
  bodied = c.requires.0;
  is-cell = c.requires.2.is-cell;
  is-liquid = c.requires.3;
  is-near = c.requires.2.each _ c.place-i.ensures.1;
  place = c.place-i.ensures.0;
  some = omega (arith, (nth-pair c.loop-pair.pair c.loop-pair-test.true).odd, c.place-i.ensures.0);
  low = c.place-i.ensures.1;
  most = omega arith;
  part = omega arith;
  flows = flows-own (part_of9 c.args.parts.now) c.args.c (c.requires.0.bodies.body _ c.requires.2.is-cell c.requires.3) c.own9.ensures c.flow_of-v.ensures;
  along = search rules ∙ entry _ _ c.dots-d.ensures c.place-i.ensures.1;
}

pub bounds-f-i : goal.bounds-f-i
bounds-f-i c = omega (arith, nth-second _ _ c.loop-pair-test.true c.place-i.ensures.0)

pub bounds-off-i-in-loop-pair : goal.bounds-off-i-in-loop-pair
bounds-off-i-in-loop-pair c = omega (arith, nth-second _ _ c.loop-pair-test.true c.place-i.ensures.0)

pub bounds-d-i-in-loop-pair : goal.bounds-d-i-in-loop-pair
bounds-d-i-in-loop-pair c = omega (arith, nth-second _ _ c.loop-pair-test.true c.place-i.ensures.0)

pub bounds-n-i-in-loop-pair : goal.bounds-n-i-in-loop-pair
bounds-n-i-in-loop-pair c = omega (arith, nth-second _ _ c.loop-pair-test.true c.place-i.ensures.0)

pub arriving9-requires-in-loop-pair : goal.arriving9-requires-in-loop-pair
unfolding part_of9
arriving9-requires-in-loop-pair c =
    let h = nth-second _ _ c.loop-pair-test.true c.place-i.ensures.0 in record {
      bodied = c.requires.0;
      is-cell = c.requires.2.is-cell;
      is-liquid = c.requires.3;
      is-near = c.requires.2.each _ h;
      place = ap (λ (n : ℕ). n + 1) c.place-i.ensures.0 ∙ sym (nth-pair _ c.loop-pair-test.true).next;
      some = omega arith;
      low = h;
      most = omega arith;
      part = omega arith;
      flows = flows-own (part_of9 c.args.parts.now) c.args.c (c.requires.0.bodies.body _ c.requires.2.is-cell c.requires.3) c.own9.ensures c.flow_of-v.ensures;
      along = search rules ∙ entry _ _ c.dots-d.ensures h;
    }

pub loop-pair-preserved : goal.loop-pair-preserved
loop-pair-preserved c g =
    let q = nth-pair _ c.loop-pair-test.true in
    let e = c.place-i.ensures.0 in
    filled-pair _ _ _ _ _ _ _ (c.loop-pair.invariant g) q (omega arith) (omega arith) e
    (search rules ∙ c.arriving9-in-loop-pair.ensures c.args.fills.now c.args.off.now c.args.low g refl (leans-read spread_lattice.weight _ (part_of9 c.args.parts.now) _ _ _ g _ c.requires.2.self _ c.leaning-n.ensures (nth-second _ _ c.loop-pair-test.true e) (search rules))
    ∙ ap (λ (n : ℕ). arrives (sight9 c.args.flags.now c.args.parts.now [] c.args.fills.now c.args.off.now c.args.low g) c.args.c (n + 1) (wide (2 * c.loop-pair.pair + 1))) e ∙ sym (streamed-odd _ _ _ _ _ _ _ _ _ q.odd))
    (search rules ∙ c.arriving9.ensures c.args.fills.now c.args.off.now c.args.low g refl (leans-read spread_lattice.weight _ (part_of9 c.args.parts.now) _ _ _ g _ c.requires.2.self _ c.leaning-n.ensures c.place-i.ensures.1 (search rules))
    ∙ ap₂ (arrives (sight9 c.args.flags.now c.args.parts.now [] c.args.fills.now c.args.off.now c.args.low g) c.args.c) e q.next ∙ sym (streamed-even _ _ _ _ _ _ _ _ _ q.odd)
    ∙ ap (streamed (sight9 c.args.flags.now c.args.parts.now [] c.args.fills.now c.args.off.now c.args.low g) c.args.c) (sym q.next))

pub returns : goal.returns
returns c g =
    let e : 2 * c.loop-pair.pair + 1 ≡ 9 = omega arith in
    filled-all _ _ (rw e at (c.loop-pair.invariant g)) ∙ streamed-spread _ _ _ _ _ _ _ _ (λ k h. refl)
