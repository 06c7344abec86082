use Rattle.std.proofs.Common.{◌≡◌, ℕ, ◌<◌, sym, subst, get_or, arith}
use Rattle.grid.specs.Grid.{cells_of}
use Rattle.pools.proofs.Flooding.{few-cells, grown-none, grown-on}
use Rattle.pools.proofs.Scanning.{behind_more, drained, tail-most}
use Rattle.pools.proofs.flood.drain.Goals as goal

pub loop-at-init : goal.loop-at-init
loop-at-init c = (c.requires.1, c.requires.2, grown-none c.args.marks.now c.args.work.now c.args.tail)

pub offset_bounds-work-at : goal.offset_bounds-work-at
offset_bounds-work-at c = omega (arith, tail-most c.loop-at.invariant.0.sound, few-cells c.requires.0.flagged, c.requires.0.flagged.count)

pub bounds-work-at : goal.bounds-work-at
bounds-work-at c = omega (arith, tail-most c.loop-at.invariant.0.sound, c.loop-at.invariant.0.sound.work-size)

pub spread-end-requires : goal.spread-end-requires
spread-end-requires c =
    let q = c.loop-at.invariant.0.sound.queued c.loop-at.at c.loop-at-test.true in (
      c.requires.0,
      c.loop-at.invariant.0.sound,
      subst (λ (d : ℕ). d < cells_of c.args.s) (sym c.place-d.ensures) q.0,
      subst (λ (d : ℕ). get_or c.loop-at.marks d 0 ≡ 0 → ⊥) (sym c.place-d.ensures) q.1,
    )

pub overflow_add-at : goal.overflow_add-at
overflow_add-at c = omega (arith, tail-most c.loop-at.invariant.0.sound, few-cells c.requires.0.flagged, c.requires.0.flagged.count)

pub loop-at-smaller : goal.loop-at-smaller
loop-at-smaller c = omega (arith, tail-most c.loop-at.invariant.0.sound)

pub loop-at-preserved : goal.loop-at-preserved
loop-at-preserved c =
    let p = c.spread-end.ensures in
    (behind_more c.loop-at.invariant.0 c.loop-at-test.true c.place-d.ensures p, omega (arith, p.grown.longer), grown-on c.loop-at.invariant.2 p.grown)

pub returns : goal.returns
returns c = drained c.loop-at.invariant.0 c.loop-at-test.false c.loop-at.invariant.2
