use Rattle.std.proofs.Common.{◌≡◌, ℕ, ◌+◌, sym, subst, arith}
use lib.Ieee.{Float}
use Rattle.tunnel.specs.inner.Parts.{Parts}
use Rattle.profile.specs.declared.Best.{Best}
use Rattle.profile.specs.Profile.{survey, depth_at}
use Rattle.profile.specs.inner.Lines.{IsBest, LinesTo}
use Rattle.profile.proofs.Deepest.{best-more, best-is}
use Rattle.profile.proofs.Written.{value-parts, number-of, lines_more, lines-kinds, lines-depths}
use Rattle.profiled.proofs.writing.written.Goals as goal

pub shares-requires : goal.shares-requires
shares-requires c = let a = c.args in
    subst (λ (x : Float). Parts x 65536) (sym c.depth_value-depth.ensures) (value-parts (survey a.f a.flags.now a.fills.now a.points.now) c.loop-i.i c.look-a.ensures)

pub loop-i-preserved : goal.loop-i-preserved
loop-i-preserved c = let a = c.args in
    let v = survey a.f a.flags.now a.fills.now a.points.now in
    let h = c.look-a.ensures in
    let value = c.depth_value-depth.ensures in (
      lines_more v a.m c.loop-i.i c.loop-i.kinds c.loop-i.depths c.loop-i-test.true h c.kind.ensures value c.loop-i.invariant.0,
      subst (λ (b : Best). IsBest (depth_at v) a.m (c.loop-i.i + 1) b) (sym c.better-best.ensures)
          (best-more (depth_at v) a.m c.loop-i.i c.loop-i.best c.shares.result (number-of v c.loop-i.i c.shares.result h value c.shares.ensures) c.loop-i.invariant.1),
    )

pub returns : goal.returns
returns c = let a = c.args in
    let v = survey a.f a.flags.now a.fills.now a.points.now in
    let e : c.loop-i.i ≡ a.m = omega arith in
    let t = subst (λ (i : ℕ). LinesTo v a.m i c.loop-i.kinds c.loop-i.depths) e c.loop-i.invariant.0 in
    record {
      at-is = best-is v a.m c.loop-i.best (subst (λ (i : ℕ). IsBest (depth_at v) a.m i c.loop-i.best) e c.loop-i.invariant.1);
      kinds-are = lines-kinds t;
      depths-are = lines-depths t;
    }
