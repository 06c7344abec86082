-- `lattice::directions::flow_of`: density by its own function, and each component by its five pairs. Assumes nothing.
use mathlib.Core.Path.{◌≡◌, ◌∙◌}
use Prim.Native.Nat.{ℕ, ◌<◌}
use lib.Dec.{lit<}
use lib.IntN.{ℤ}
use Rattle.whole.specs.laws.Machine.{Val, machine, same, does-fit, reads_as}
use Rattle.lattice.specs.inner.Held.{parts_of}
use Rattle.lattice.proofs.Momentum.{pair, pair-in, density-in, x-pairs, y-pairs, z-pairs, same-vector}
use Rattle.lattice.proofs.Reading.{inside}
use Rattle.lattice.proofs.directions.flow_of.Lts as lts
use Rattle.lattice.proofs.directions.flow_of.Reads as reads
use Rattle.lattice.proofs.directions.flow_of.Tie as tie
use Rattle.lattice.proofs.directions.flow_of.Goals as goal

abbrev At-Start : Type 0
At-Start = lts.Start tie.the-claims reads.Pre reads.Post

-- a call's result that is pair h's difference, of the parts that the function was given
abbrev pair_is : (s : At-Start) (h : ℕ) {r : ℤ} → h < 9 → r ≡ pair (parts_of s.args.f) h → Val r
pair_is s h k e = same e (inside (pair-in s.args.f s.requires h k))

pub overflow_add-result : goal.overflow_add-result
overflow_add-result c =
    let s = c.before.before.before.before.before.before.before.before in
    let x = pair_is s 0 (lit< tt) c.apart.ensures in
    let xy = pair_is s 3 (lit< tt) c.apart-xy.ensures in
    does-fit (search machine depth 20) tt

pub overflow_add-result-2 : goal.overflow_add-result-2
overflow_add-result-2 c =
    let s = c.before.before.before.before.before.before.before.before in
    let x = pair_is s 0 (lit< tt) c.apart.ensures in
    let xy = pair_is s 3 (lit< tt) c.apart-xy.ensures in
    let yx = pair_is s 4 (lit< tt) c.apart-yx.ensures in
    does-fit (search machine depth 20) tt

pub overflow_add-result-3 : goal.overflow_add-result-3
overflow_add-result-3 c =
    let s = c.before.before.before.before.before.before.before.before in
    let x = pair_is s 0 (lit< tt) c.apart.ensures in
    let xy = pair_is s 3 (lit< tt) c.apart-xy.ensures in
    let yx = pair_is s 4 (lit< tt) c.apart-yx.ensures in
    let xz = pair_is s 7 (lit< tt) c.apart-xz.ensures in
    does-fit (search machine depth 20) tt

pub overflow_add-result-4 : goal.overflow_add-result-4
overflow_add-result-4 c =
    let s = c.before.before.before.before.before.before.before.before in
    let x = pair_is s 0 (lit< tt) c.apart.ensures in
    let xy = pair_is s 3 (lit< tt) c.apart-xy.ensures in
    let yx = pair_is s 4 (lit< tt) c.apart-yx.ensures in
    let xz = pair_is s 7 (lit< tt) c.apart-xz.ensures in
    let zx = pair_is s 8 (lit< tt) c.apart-zx.ensures in
    does-fit (search machine depth 20) tt

pub overflow_add-result-5 : goal.overflow_add-result-5
overflow_add-result-5 c =
    let s = c.before.before.before.before.before.before.before.before.before in
    let y = pair_is s 1 (lit< tt) c.apart-2.ensures in
    let xy = pair_is s 3 (lit< tt) c.apart-xy.ensures in
    does-fit (search machine depth 20) tt

pub overflow_sub-result : goal.overflow_sub-result
overflow_sub-result c =
    let s = c.before.before.before.before.before.before.before.before.before in
    let y = pair_is s 1 (lit< tt) c.apart-2.ensures in
    let xy = pair_is s 3 (lit< tt) c.apart-xy.ensures in
    let yx = pair_is s 4 (lit< tt) c.apart-yx.ensures in
    does-fit (search machine depth 20) tt

pub overflow_add-result-6 : goal.overflow_add-result-6
overflow_add-result-6 c =
    let s = c.before.before.before.before.before.before.before.before.before in
    let y = pair_is s 1 (lit< tt) c.apart-2.ensures in
    let xy = pair_is s 3 (lit< tt) c.apart-xy.ensures in
    let yx = pair_is s 4 (lit< tt) c.apart-yx.ensures in
    let yz = pair_is s 5 (lit< tt) c.apart-yz.ensures in
    does-fit (search machine depth 20) tt

pub overflow_add-result-7 : goal.overflow_add-result-7
overflow_add-result-7 c =
    let s = c.before.before.before.before.before.before.before.before.before in
    let y = pair_is s 1 (lit< tt) c.apart-2.ensures in
    let xy = pair_is s 3 (lit< tt) c.apart-xy.ensures in
    let yx = pair_is s 4 (lit< tt) c.apart-yx.ensures in
    let yz = pair_is s 5 (lit< tt) c.apart-yz.ensures in
    let zy = pair_is s 6 (lit< tt) c.apart-zy.ensures in
    does-fit (search machine depth 20) tt

pub overflow_add-result-8 : goal.overflow_add-result-8
overflow_add-result-8 c =
    let s = c.before.before.before.before.before.before.before.before.before.before in
    let z = pair_is s 2 (lit< tt) c.apart-3.ensures in
    let yz = pair_is s 5 (lit< tt) c.apart-yz.ensures in
    does-fit (search machine depth 20) tt

pub overflow_sub-result-2 : goal.overflow_sub-result-2
overflow_sub-result-2 c =
    let s = c.before.before.before.before.before.before.before.before.before.before in
    let z = pair_is s 2 (lit< tt) c.apart-3.ensures in
    let yz = pair_is s 5 (lit< tt) c.apart-yz.ensures in
    let zy = pair_is s 6 (lit< tt) c.apart-zy.ensures in
    does-fit (search machine depth 20) tt

pub overflow_add-result-9 : goal.overflow_add-result-9
overflow_add-result-9 c =
    let s = c.before.before.before.before.before.before.before.before.before.before in
    let z = pair_is s 2 (lit< tt) c.apart-3.ensures in
    let yz = pair_is s 5 (lit< tt) c.apart-yz.ensures in
    let zy = pair_is s 6 (lit< tt) c.apart-zy.ensures in
    let xz = pair_is s 7 (lit< tt) c.apart-xz.ensures in
    does-fit (search machine depth 20) tt

pub overflow_sub-result-3 : goal.overflow_sub-result-3
overflow_sub-result-3 c =
    let s = c.before.before.before.before.before.before.before.before.before.before in
    let z = pair_is s 2 (lit< tt) c.apart-3.ensures in
    let yz = pair_is s 5 (lit< tt) c.apart-yz.ensures in
    let zy = pair_is s 6 (lit< tt) c.apart-zy.ensures in
    let xz = pair_is s 7 (lit< tt) c.apart-xz.ensures in
    let zx = pair_is s 8 (lit< tt) c.apart-zx.ensures in
    does-fit (search machine depth 20) tt

pub returns : goal.returns
returns c =
    let s = c.before.before.before.before.before.before.before.before.before.before in
    let xy = pair_is s 3 (lit< tt) c.apart-xy.ensures in
    let yx = pair_is s 4 (lit< tt) c.apart-yx.ensures in
    let yz = pair_is s 5 (lit< tt) c.apart-yz.ensures in
    let zy = pair_is s 6 (lit< tt) c.apart-zy.ensures in
    let xz = pair_is s 7 (lit< tt) c.apart-xz.ensures in
    let zx = pair_is s 8 (lit< tt) c.apart-zx.ensures in
    let x = pair_is s 0 (lit< tt) c.apart.ensures in
    let y = pair_is s 1 (lit< tt) c.apart-2.ensures in
    let z = pair_is s 2 (lit< tt) c.apart-3.ensures in
    let rho = same c.density.ensures (inside (density-in s.args.f s.requires)) in
    let f = parts_of s.args.f in (
      reads_as (search machine depth 20) tt,
      same-vector _ _
          (reads_as (search machine depth 20) tt ∙ x-pairs f)
          (reads_as (search machine depth 20) tt ∙ y-pairs f)
          (reads_as (search machine depth 20) tt ∙ z-pairs f),
    )
