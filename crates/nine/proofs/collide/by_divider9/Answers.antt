use mathlib.Core.Path.{◌≡◌, refl, ◌∙◌}
use Prim.Native.Nat.{suc, ◌+◌, ◌*◌, ◌%◌}
use native.Mathlib.Omega.{arith}
use lib.ListN.{get_or}
use lib.IntN.{pos, ◌+ℤ◌, ◌-ℤ◌}
use mir.Syntax.{w32, w64}
use mir.Val.{to_z, of_z}
use mir.Facts.{to_z-of_z}
use Rattle.whole.specs.laws.Machine.{machine, known, same, v32, v64, within_by, does-fit, reads_as}
use Rattle.flume.specs.inner.Spread.{spread_lattice}
use Rattle.lattice.specs.inner.Held.{parts_of, vec}
use Rattle.lattice.proofs.Reading.{reading, inside}
use Rattle.nine.proofs.Weighed.{weight-in, weight-opposite}
use Rattle.collision.proofs.Collision.{ready, dot-is, dot-bound, dot-turned, formed, pair_formed, formed-is}
use Rattle.collision.proofs.Turns.{eighteen, begun, both, waiting-more, waits_in, all_done}
use Rattle.nine.proofs.collide.by_divider9.Goals as goal

pub loop-h-init : goal.loop-h-init
loop-h-init c = (begun _ _ _ c.requires.0 (within_by (v32 (inside c.requires.2.rho)) tt), λ j h. refl)

pub relaxed_pair-n-requires : goal.relaxed_pair-n-requires
relaxed_pair-n-requires c =
    let i = 2 * c.loop-h.h + 1 in
    let hf = waits_in c.requires.1 c.loop-h.f i c.loop-h.invariant.1 i (omega arith) (omega arith) (omega arith) in
    let hg = waits_in c.requires.1 c.loop-h.f i c.loop-h.invariant.1 (i + 1) (omega arith) (omega arith) (omega arith) in
    let hd = dot-bound c.args.v c.requires.2 c.dots-d.result c.dots-d.ensures i (omega arith) in
    let w = same c.weight9.ensures (inside (weight-in i (omega arith) (omega arith))) in (
      ready c.args.v _ c.common_of-k.result c.requires.2 (rw (to_z-of_z c.ranges.p) c.requires.3) c.common_of-k.ensures,
      within_by (search reading depth 20) tt,
      within_by (search reading depth 20) tt,
      within_by (search machine depth 20) tt,
      within_by (search reading depth 20) tt,
    )

pub overflow_sub-r : goal.overflow_sub-r
overflow_sub-r c =
    let x = c.relaxed_pair-n.ensures.a_in in
    let y = c.relaxed_pair-n.ensures.b-in in
    let near = c.loop-h.invariant.0.near in
    let r = known (to_z w32 c.loop-h.r-bits) 671088640 (omega arith) in
    does-fit (search reading depth 20) tt

pub loop-h-preserved : goal.loop-h-preserved
loop-h-preserved c =
    let l = c.loop-h in
    let i = 2 * l.h + 1 in
    let odd : i % 2 ≡ 1 = omega arith in
    let n = c.relaxed_pair-n.result in
    let p = c.relaxed_pair-n.ensures in
    let hx = p.a_in in
    let hy = p.b-in in
    let near = l.invariant.0.near in
    let r = known (to_z w32 l.r-bits) 671088640 (omega arith) in
    let ex : to_z w32 (of_z w32 n.a) ≡ n.a = reads_as (v32 (inside hx)) tt in
    let ey : to_z w32 (of_z w32 n.b) ≡ n.b = reads_as (v32 (inside hy)) tt in
    let er : to_z w32 (of_z w32 (to_z w32 l.r-bits -ℤ to_z w32 (of_z w32 (to_z w32 (of_z w32 n.a) +ℤ to_z w32 (of_z w32 n.b))))) ≡ to_z w32 l.r-bits -ℤ (n.a +ℤ n.b) =
    reads_as (search reading depth 20) tt in
    -- what the pair is worked out of
    let f = c.args.f.now in
    let d = c.dots-d.result in
    let k = c.common_of-k.result in
    let hf = waits_in c.requires.1 l.f i l.invariant.1 i (omega arith) (omega arith) (omega arith) in
    let hg = waits_in c.requires.1 l.f i l.invariant.1 (i + 1) (omega arith) (omega arith) (omega arith) in
    let hd = dot-bound c.args.v c.requires.2 d c.dots-d.ensures i (omega arith) in
    let ef : to_z w32 (of_z w32 (parts_of l.f i)) ≡ parts_of f i = reads_as (v32 (inside hf)) tt ∙ l.invariant.1 i (omega arith) in
    let eg : to_z w32 (of_z w32 (parts_of l.f (i + 1))) ≡ parts_of f (i + 1) = reads_as (v32 (inside hg)) tt ∙ l.invariant.1 (i + 1) (omega arith) in
    let ew : to_z w64 (of_z w64 c.weight9.result) ≡ pos (spread_lattice.weight i) = reads_as (v64 (same c.weight9.ensures (inside (weight-in i (omega arith) (omega arith))))) tt in
    let ed : to_z w32 (of_z w32 (get_or d i (pos 0))) ≡ get_or d i (pos 0) = reads_as (v32 (inside hd)) tt in
    let q = pair_formed spread_lattice f d k i (rw (ef, eg, ew, ed) at p) (weight-opposite i odd (omega arith)) (dot-turned c.args.v c.requires.2 d c.dots-d.ensures i odd (omega arith)) in
    rw (er, ex, ey) (both (formed spread_lattice f d k) _ n.a n.b (2 * (l.h + 1) + 1) (omega arith) l.invariant.0 (omega arith) (omega arith) q.0 q.1 hx hy, waiting-more f l.f i n.a n.b (2 * (l.h + 1) + 1) (omega arith) l.invariant.1)

pub returns : goal.returns
returns c =
    let v = c.args.v in
    let e : to_z w32 (of_z w32 v.rho) ≡ v.rho = reads_as (v32 (inside c.requires.2.rho)) tt in
    let is = rw (to_z-of_z c.ranges.p) at c.common_of-k.ensures in
    let d = c.dots-d.result in
    all_done (formed spread_lattice c.args.f.now d c.common_of-k.result) v.rho spread_lattice eighteen (vec v) c.args.p (parts_of c.args.f.now)
    (λ k h. formed-is spread_lattice v c.args.p c.common_of-k.result is c.args.f.now d (suc k) (dot-is v c.requires.2 d c.dots-d.ensures (suc k) (omega arith)))
    (rw e at c.loop-h.invariant.0) (omega arith)
