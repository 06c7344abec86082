-- `tunnel::placing::axis`: ranges keep the difference far below 2^63, so it is itself; then the two laws of Axes. Assumes nothing.
use borrow.Author.Tests.{lt-ltb, le-ltb}
use mathlib.Core.Path.{◌≡◌}
use mathlib.Core.Bool.{false}
use Prim.Native.Nat.{◌/◌, ◌≤◌, ◌<◌}
use native.Mathlib.Omega.{arith}
use lib.IntN.{pos, ◌-ℤ◌, nat_abs}
use lib.Signed.{lt_z, nat_abs-le}
use mir.Syntax.{w64}
use mir.Val.{to_z, of_z}
use mir.ValLaws.{to_z-of_z}
use Rattle.whole.specs.laws.Bounds.{abs-sub}
use Rattle.whole.specs.laws.Machine.{machine, w64-in, does-fit, reads_as}
use Rattle.tunnel.proofs.Axes.{near, edge-some, zero-up, axis-below, axis-from}
use Rattle.tunnel.proofs.placing.axis.Goals as goal

-- the machine's difference and edge are the numbers'
gap : (c : goal.Start) → to_z w64 (of_z w64 (to_z w64 (of_z w64 c.args.point) -ℤ to_z w64 (of_z w64 c.args.origin))) ≡ c.args.point -ℤ c.args.origin
gap c =
    let hp = near c.args.point c.requires.point_value in
    let ho = near c.args.origin c.requires.origin_value in
    reads_as (search (machine, w64-in) depth 30 fits 5000) tt

edge-is : (c : goal.Start) → to_z w64 (of_z w64 c.args.edge) ≡ c.args.edge
edge-is c = to_z-of_z w64 c.args.edge c.ranges.edge

-- the test passed: the difference is not negative
up : (c : goal.Start) → lt_z (to_z w64 (of_z w64 (to_z w64 (of_z w64 c.args.point) -ℤ to_z w64 (of_z w64 c.args.origin)))) (pos 0) ≡ false → lt_z (c.args.point -ℤ c.args.origin) (pos 0) ≡ false
up c h = rw (gap c) at h

pub overflow_sub-d : goal.overflow_sub-d
overflow_sub-d c =
    let hp = near c.args.point c.requires.point_value in
    let ho = near c.args.origin c.requires.origin_value in
    does-fit (search (machine, w64-in) depth 30 fits 5000) tt

pub returns-then-d-lt0 : goal.returns-then-d-lt0
returns-then-d-lt0 c = axis-below _ _ _ _ (rw (gap c.before) at c.if-d-lt0.true)

pub overflow_cast-q : goal.overflow_cast-q
overflow_cast-q c =
    let s = c.before in
    let p = s.args.point in
    let o = s.args.origin in
    simp (gap s) (zero-up (p -ℤ o) (up s search), record { fits = omega (arith, abs-sub p o, (near p s.requires.point_value).abs, (near o s.requires.origin_value).abs) })

pub overflow_cast-q-2 : goal.overflow_cast-q-2
overflow_cast-q-2 c =
    let e = c.args.edge in
    simp (edge-is c.before) ((edge-some e c.requires.edge_value).0, record { fits = omega (arith, nat_abs-le e c.ranges.edge.sfits) })

pub nonzero_div-q : goal.nonzero_div-q
nonzero_div-q c = simp (edge-is c.before) (edge-some c.args.edge c.requires.edge_value).1

pub returns-then-q-side : goal.returns-then-q-side
returns-then-q-side c =
    let s = c.before.before in
    let h : nat_abs (s.args.point -ℤ s.args.origin) / nat_abs s.args.edge < s.args.side = simp (gap s, edge-is s) at c.if-q-side.true in
    simp (gap s, edge-is s) (simp (lt-ltb _ _ h) at (axis-from s.args.point s.args.origin (nat_abs s.args.edge) s.args.side (up s search)))

pub returns : goal.returns
returns c =
    let s = c.before.before in
    let h : s.args.side ≤ nat_abs (s.args.point -ℤ s.args.origin) / nat_abs s.args.edge = simp (gap s, edge-is s) at c.if-q-side.false in
    simp (le-ltb _ _ h) at (axis-from s.args.point s.args.origin (nat_abs s.args.edge) s.args.side (up s search))
