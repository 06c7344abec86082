-- `turbulence::stress::tension`: six squares, of entries that are sums or differences of pairs. Assumes nothing.
use mathlib.Core.Path.{◌≡◌, ◌∙◌, ap}
use Prim.Native.Nat.{◌≤◌}
use native.Mathlib.Omega.{arith}
use lib.IntN.{◌+ℤ◌, ◌-ℤ◌}
use Rattle.whole.specs.laws.Machine.{within_by, reads_as}
use Rattle.lattice.proofs.Reading.{reading}
use Rattle.turbulence.specs.Turbulence.{square}
use Rattle.turbulence.proofs.stress.tension.Lts as lts
use Rattle.turbulence.proofs.stress.tension.Reads as reads
use Rattle.turbulence.proofs.stress.tension.Tie as tie
use Rattle.turbulence.proofs.stress.tension.Goals as goal

abbrev At-After-square_of_sum-xx : Type 0
At-After-square_of_sum-xx = lts.After-square_of_sum tie.the-claims reads.Pre reads.Post

abbrev At-Start : Type 0
At-Start = lts.Start tie.the-claims reads.Pre reads.Post

abbrev At-After-square_of_sum-yy : Type 0
At-After-square_of_sum-yy = lts.After-square_of_sum2 tie.the-claims reads.Pre reads.Post

abbrev At-After-square_of_sum-zz : Type 0
At-After-square_of_sum-zz = lts.After-square_of_sum3 tie.the-claims reads.Pre reads.Post

abbrev At-After-square_of_difference-xy : Type 0
At-After-square_of_difference-xy = lts.After-square_of_difference tie.the-claims reads.Pre reads.Post

abbrev At-After-square_of_difference-yz : Type 0
At-After-square_of_difference-yz = lts.After-square_of_difference2 tie.the-claims reads.Pre reads.Post

-- from each call back to the one before, and to the start
abbrev xx-start : At-After-square_of_sum-xx → At-Start
xx-start c = c.before.before.before.before.before.before

abbrev yy-xx : At-After-square_of_sum-yy → At-After-square_of_sum-xx
yy-xx c = c.before.before.before.before.before.before

abbrev yy-start : At-After-square_of_sum-yy → At-Start
yy-start c = xx-start (yy-xx c)

abbrev zz-yy : At-After-square_of_sum-zz → At-After-square_of_sum-yy
zz-yy c = c.before.before.before.before.before.before

abbrev zz-start : At-After-square_of_sum-zz → At-Start
zz-start c = yy-start (zz-yy c)

abbrev xy-zz : At-After-square_of_difference-xy → At-After-square_of_sum-zz
xy-zz c = c.before.before.before

abbrev xy-start : At-After-square_of_difference-xy → At-Start
xy-start c = zz-start (xy-zz c)

abbrev yz-xy : At-After-square_of_difference-yz → At-After-square_of_difference-xy
yz-xy c = c.before.before.before

abbrev yz-start : At-After-square_of_difference-yz → At-Start
yz-start c = xy-start (yz-xy c)

abbrev xz-yz : goal.After-square_of_difference-xz → At-After-square_of_difference-yz
xz-yz c = c.before.before.before

abbrev xz-start : goal.After-square_of_difference-xz → At-Start
xz-start c = yz-start (xz-yz c)

xx-is : (c : At-After-square_of_sum-xx) → (c.square_of_sum-xx.result ≡ square ((xx-start c).args.n.x +ℤ (xx-start c).args.n.xy +ℤ (xx-start c).args.n.yx +ℤ (xx-start c).args.n.xz +ℤ (xx-start c).args.n.zx)) × (c.square_of_sum-xx.result ≤ 4503599627370496)
xx-is c =
    let n = (xx-start c).requires in
    let x = n.x in let xy = n.xy in let yx = n.yx in let xz = n.xz in let zx = n.zx in
    (c.square_of_sum-xx.ensures.0 ∙ ap square (reads_as (search reading depth 20) tt), c.square_of_sum-xx.ensures.1)

yy-is : (c : At-After-square_of_sum-yy) → (c.square_of_sum-yy.result ≡ square ((yy-start c).args.n.y +ℤ (yy-start c).args.n.xy +ℤ (yy-start c).args.n.yx +ℤ (yy-start c).args.n.yz +ℤ (yy-start c).args.n.zy)) × (c.square_of_sum-yy.result ≤ 4503599627370496)
yy-is c =
    let n = (yy-start c).requires in
    let y = n.y in let xy = n.xy in let yx = n.yx in let yz = n.yz in let zy = n.zy in
    (c.square_of_sum-yy.ensures.0 ∙ ap square (reads_as (search reading depth 20) tt), c.square_of_sum-yy.ensures.1)

zz-is : (c : At-After-square_of_sum-zz) → (c.square_of_sum-zz.result ≡ square ((zz-start c).args.n.z +ℤ (zz-start c).args.n.yz +ℤ (zz-start c).args.n.zy +ℤ (zz-start c).args.n.xz +ℤ (zz-start c).args.n.zx)) × (c.square_of_sum-zz.result ≤ 4503599627370496)
zz-is c =
    let n = (zz-start c).requires in
    let z = n.z in let yz = n.yz in let zy = n.zy in let xz = n.xz in let zx = n.zx in
    (c.square_of_sum-zz.ensures.0 ∙ ap square (reads_as (search reading depth 20) tt), c.square_of_sum-zz.ensures.1)

xy-is : (c : At-After-square_of_difference-xy) → (c.square_of_difference-xy.result ≡ square ((xy-start c).args.n.xy -ℤ (xy-start c).args.n.yx)) × (c.square_of_difference-xy.result ≤ 4503599627370496)
xy-is c =
    let n = (xy-start c).requires in
    let xy = n.xy in let yx = n.yx in
    (c.square_of_difference-xy.ensures.0 ∙ ap square (reads_as (search reading depth 20) tt), c.square_of_difference-xy.ensures.1)

yz-is : (c : At-After-square_of_difference-yz) → (c.square_of_difference-yz.result ≡ square ((yz-start c).args.n.yz -ℤ (yz-start c).args.n.zy)) × (c.square_of_difference-yz.result ≤ 4503599627370496)
yz-is c =
    let n = (yz-start c).requires in
    let yz = n.yz in let zy = n.zy in
    (c.square_of_difference-yz.ensures.0 ∙ ap square (reads_as (search reading depth 20) tt), c.square_of_difference-yz.ensures.1)

xz-is : (c : goal.After-square_of_difference-xz) → (c.square_of_difference-xz.result ≡ square ((xz-start c).args.n.xz -ℤ (xz-start c).args.n.zx)) × (c.square_of_difference-xz.result ≤ 4503599627370496)
xz-is c =
    let n = (xz-start c).requires in
    let xz = n.xz in let zx = n.zx in
    (c.square_of_difference-xz.ensures.0 ∙ ap square (reads_as (search reading depth 20) tt), c.square_of_difference-xz.ensures.1)

pub square_of_sum-xx-requires : goal.square_of_sum-xx-requires
square_of_sum-xx-requires c =
    let n = c.requires in
    let x = n.x in let xy = n.xy in let yx = n.yx in let xz = n.xz in let zx = n.zx in
    (within_by (search reading depth 20) tt, within_by (search reading depth 20) tt, within_by (search reading depth 20) tt, within_by (search reading depth 20) tt, within_by (search reading depth 20) tt)

pub square_of_sum-yy-requires : goal.square_of_sum-yy-requires
square_of_sum-yy-requires c =
    let n = (xx-start c.before.before.before.before.before.before).requires in
    let y = n.y in let xy = n.xy in let yx = n.yx in let yz = n.yz in let zy = n.zy in
    (within_by (search reading depth 20) tt, within_by (search reading depth 20) tt, within_by (search reading depth 20) tt, within_by (search reading depth 20) tt, within_by (search reading depth 20) tt)

pub square_of_sum-zz-requires : goal.square_of_sum-zz-requires
square_of_sum-zz-requires c =
    let n = (yy-start c.before.before.before.before.before.before).requires in
    let z = n.z in let yz = n.yz in let zy = n.zy in let xz = n.xz in let zx = n.zx in
    (within_by (search reading depth 20) tt, within_by (search reading depth 20) tt, within_by (search reading depth 20) tt, within_by (search reading depth 20) tt, within_by (search reading depth 20) tt)

pub square_of_difference-xy-requires : goal.square_of_difference-xy-requires
square_of_difference-xy-requires c =
    let n = (zz-start c.before.before.before).requires in
    let xy = n.xy in let yx = n.yx in
    (within_by (search reading depth 20) tt, within_by (search reading depth 20) tt)

pub square_of_difference-yz-requires : goal.square_of_difference-yz-requires
square_of_difference-yz-requires c =
    let n = (xy-start c.before.before.before).requires in
    let yz = n.yz in let zy = n.zy in
    (within_by (search reading depth 20) tt, within_by (search reading depth 20) tt)

pub square_of_difference-xz-requires : goal.square_of_difference-xz-requires
square_of_difference-xz-requires c =
    let n = (yz-start c.before.before.before).requires in
    let xz = n.xz in let zx = n.zx in
    (within_by (search reading depth 20) tt, within_by (search reading depth 20) tt)

pub overflow_add-result : goal.overflow_add-result
overflow_add-result c = record { fits = omega (arith, xx-is (yy-xx (zz-yy (xy-zz (yz-xy (xz-yz c))))), yy-is (zz-yy (xy-zz (yz-xy (xz-yz c)))), zz-is (xy-zz (yz-xy (xz-yz c))), xy-is (yz-xy (xz-yz c)), yz-is (xz-yz c), xz-is c) }

pub overflow_add-result-2 : goal.overflow_add-result-2
overflow_add-result-2 c = record { fits = omega (arith, xx-is (yy-xx (zz-yy (xy-zz (yz-xy (xz-yz c))))), yy-is (zz-yy (xy-zz (yz-xy (xz-yz c)))), zz-is (xy-zz (yz-xy (xz-yz c))), xy-is (yz-xy (xz-yz c)), yz-is (xz-yz c), xz-is c) }

pub overflow_add-result-3 : goal.overflow_add-result-3
overflow_add-result-3 c = record { fits = omega (arith, xx-is (yy-xx (zz-yy (xy-zz (yz-xy (xz-yz c))))), yy-is (zz-yy (xy-zz (yz-xy (xz-yz c)))), zz-is (xy-zz (yz-xy (xz-yz c))), xy-is (yz-xy (xz-yz c)), yz-is (xz-yz c), xz-is c) }

pub overflow_add-result-4 : goal.overflow_add-result-4
overflow_add-result-4 c = record { fits = omega (arith, xx-is (yy-xx (zz-yy (xy-zz (yz-xy (xz-yz c))))), yy-is (zz-yy (xy-zz (yz-xy (xz-yz c)))), zz-is (xy-zz (yz-xy (xz-yz c))), xy-is (yz-xy (xz-yz c)), yz-is (xz-yz c), xz-is c) }

pub overflow_mul-result : goal.overflow_mul-result
overflow_mul-result c = record { fits = omega (arith, xx-is (yy-xx (zz-yy (xy-zz (yz-xy (xz-yz c))))), yy-is (zz-yy (xy-zz (yz-xy (xz-yz c)))), zz-is (xy-zz (yz-xy (xz-yz c))), xy-is (yz-xy (xz-yz c)), yz-is (xz-yz c), xz-is c) }

pub overflow_add-result-5 : goal.overflow_add-result-5
overflow_add-result-5 c = record { fits = omega (arith, xx-is (yy-xx (zz-yy (xy-zz (yz-xy (xz-yz c))))), yy-is (zz-yy (xy-zz (yz-xy (xz-yz c)))), zz-is (xy-zz (yz-xy (xz-yz c))), xy-is (yz-xy (xz-yz c)), yz-is (xz-yz c), xz-is c) }

pub returns : goal.returns
returns c = (omega (arith, xx-is (yy-xx (zz-yy (xy-zz (yz-xy (xz-yz c))))), yy-is (zz-yy (xy-zz (yz-xy (xz-yz c)))), zz-is (xy-zz (yz-xy (xz-yz c))), xy-is (yz-xy (xz-yz c)), yz-is (xz-yz c), xz-is c), omega (arith, xx-is (yy-xx (zz-yy (xy-zz (yz-xy (xz-yz c))))), yy-is (zz-yy (xy-zz (yz-xy (xz-yz c)))), zz-is (xy-zz (yz-xy (xz-yz c))), xy-is (yz-xy (xz-yz c)), yz-is (xz-yz c), xz-is c))
