use mathlib.Core.Path.{refl, sym, ap, ◌∙◌}
use Prim.Native.Nat.{◌*◌}
use native.Mathlib.Nat.{add-zero}
use native.Mathlib.Omega.{arith}
use borrow.Author.Rules.{rules}
use lib.IntN.{pos}
use lib.ListN.{get_or, replicate, length-set}
use Rattle.whole.specs.laws.Tab.{upto_zero, upto-more, upto_all}
use Rattle.lattice.specs.Lattice.{d3q19}
use Rattle.grid.specs.State.{part_of}
use Rattle.arrivals.proofs.Arrivals.{streamed-rest, streamed-odd, streamed-even}
use Rattle.arrivals.proofs.Leans.{entry, leans-read}
use Rattle.arrivals.proofs.Spans.{bounded-own, flows-own, tame-body}
use Rattle.flow.proofs.Stores.{upto-pair}
use Rattle.flow.proofs.streaming.rebuilt.Goals as goal

pub flow_of-v-requires : goal.flow_of-v-requires
flow_of-v-requires c = bounded-own _ (c.requires.0.body _ c.requires.2.is-cell c.requires.3) _ c.own.ensures _ _ (omega arith) (omega arith)

pub dots-d-requires : goal.dots-d-requires
dots-d-requires c =
    let b = c.requires.0.body _ c.requires.2.is-cell c.requires.3 in
    let w = flows-own (part_of c.args.parts.now) c.args.c b c.own.ensures c.flow_of-v.ensures in
    let t = tame-body _ b c.flow_of-v.result w.density w.momentum in
    (record { abs = omega (arith, t.x.abs) }, record { abs = omega (arith, t.y.abs) }, record { abs = omega (arith, t.z.abs) })

pub loop-pair-init : goal.loop-pair-init
loop-pair-init c = (refl, λ g. upto-more (pos 0) _ (replicate 19 (pos 0)) 0 _ (omega arith) (upto_zero (pos 0) _ (replicate 19 (pos 0))) (search rules ∙ ap (λ n. get_or c.args.parts.now n (pos 0)) (sym (add-zero (19 * c.args.c))) ∙ sym (streamed-rest _ _ _ _ _ _ _ _)))

pub arriving-requires : goal.arriving-requires
arriving-requires c = record {
  bodied = c.requires.0;
  is-cell = c.requires.2.is-cell;
  is-liquid = c.requires.3;
  is-near = c.requires.2.each _ (omega arith);
  some = omega arith;
  most = omega arith;
  part = omega arith;
  flows = flows-own (part_of c.args.parts.now) c.args.c (c.requires.0.body _ c.requires.2.is-cell c.requires.3) c.own.ensures c.flow_of-v.ensures;
  along = search rules ∙ entry _ _ c.dots-d.ensures (omega arith);
}

pub arriving-requires-in-loop-pair : goal.arriving-requires-in-loop-pair
arriving-requires-in-loop-pair c = record {
  bodied = c.requires.0;
  is-cell = c.requires.2.is-cell;
  is-liquid = c.requires.3;
  is-near = c.requires.2.each _ (omega arith);
  some = omega arith;
  most = omega arith;
  part = omega arith;
  flows = flows-own (part_of c.args.parts.now) c.args.c (c.requires.0.body _ c.requires.2.is-cell c.requires.3) c.own.ensures c.flow_of-v.ensures;
  along = search rules ∙ entry _ _ c.dots-d.ensures (omega arith);
}

pub loop-pair-preserved : goal.loop-pair-preserved
loop-pair-preserved c =
    let l = c.loop-pair.invariant in (
      simp length-set l.0,
      λ g. upto-pair (pos 0) _ _ _ _ _ _ (omega arith) (omega arith) (l.1 g)
          (search rules ∙ c.arriving-in-loop-pair.ensures c.args.fills.now c.args.off.now c.args.low g refl (leans-read d3q19.weight _ (part_of c.args.parts.now) _ _ _ g _ c.requires.2.self _ c.leaning-n.ensures (omega arith) (search rules))
          ∙ sym (streamed-odd _ _ _ _ _ _ _ _ _ (omega arith)))
          (search rules ∙ c.arriving.ensures c.args.fills.now c.args.off.now c.args.low g refl (leans-read d3q19.weight _ (part_of c.args.parts.now) _ _ _ g _ c.requires.2.self _ c.leaning-n.ensures (omega arith) (search rules))
          ∙ sym (streamed-even _ _ _ _ _ _ _ _ _ (omega arith))),
    )

pub returns : goal.returns
returns c g = let l = c.loop-pair.invariant in upto_all (pos 0) _ _ 19 l.0 (λ j h. l.1 g j (omega arith))
