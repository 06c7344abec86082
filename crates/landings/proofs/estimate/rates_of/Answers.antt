-- `landings::estimate::rates_of`: every product fits for a steady flow, and each field is its definition. Assumes nothing.
use mathlib.Core.Path.{◌≡◌, ◌∙◌, ap}
use native.Mathlib.Omega.{arith}
use lib.IntN.{ℤ, pos, ◌*ℤ◌}
use lib.Signed.{quot_z, shr_z}
use mir.Syntax.{w64}
use mir.Val.{to_z, of_z}
use Rattle.whole.specs.laws.Bounds.{abs-above}
use Rattle.whole.specs.laws.Machine.{Within, Val, same, v+, v*, vneg, vpos, v32, v64, within_by, does-fit, reads_as, not-zero, as_read}
use Rattle.lattice.proofs.Reading.{inside, least-val, v/least, num, v/num}
use Rattle.landings.specs.inner.Estimate.{speed, odd, even, energy}
use Rattle.landings.proofs.Loss.{shifting, vshr, by}
use Rattle.landings.proofs.Bracket.{product-in}
use Rattle.landings.proofs.Rates.{Fair, p-in, calm_of, axis-x, axis-y, axis-z, base-in}
use Rattle.landings.proofs.estimate.rates_of.Lts as lts
use Rattle.landings.proofs.estimate.rates_of.Reads as reads
use Rattle.landings.proofs.estimate.rates_of.Tie as tie
use Rattle.landings.proofs.estimate.rates_of.Goals as goal

abbrev At-After-wide : Type 0
At-After-wide = lts.After-wide tie.the-claims reads.Pre reads.Post

abbrev At-After-speed-vx : Type 0
At-After-speed-vx = lts.After-speed tie.the-claims reads.Pre reads.Post

abbrev At-After-speed-vy : Type 0
At-After-speed-vy = lts.After-speed2 tie.the-claims reads.Pre reads.Post

abbrev At-After-speed-vz : Type 0
At-After-speed-vz = lts.After-speed3 tie.the-claims reads.Pre reads.Post

abbrev At-After-odd : Type 0
At-After-odd = lts.After-odd tie.the-claims reads.Pre reads.Post

abbrev At-After-odd-2 : Type 0
At-After-odd-2 = lts.After-odd2 tie.the-claims reads.Pre reads.Post

abbrev At-After-odd-3 : Type 0
At-After-odd-3 = lts.After-odd3 tie.the-claims reads.Pre reads.Post

abbrev At-After-wide-2 : Type 0
At-After-wide-2 = lts.After-wide2 tie.the-claims reads.Pre reads.Post

abbrev At-After-wide-3 : Type 0
At-After-wide-3 = lts.After-wide3 tie.the-claims reads.Pre reads.Post

abbrev At-After-wide-4 : Type 0
At-After-wide-4 = lts.After-wide4 tie.the-claims reads.Pre reads.Post

fair : (s : goal.Start) → Fair s.args.v s.args.p
fair s = record { steady = s.requires.0; good = s.requires.1 }

abbrev rho-is : (c : At-After-wide) → Val c.wide.result
rho-is c = same c.wide.ensures (v32 (inside (calm_of (fair c.before.before)).tame.rho))

-- the machine's inverse
abbrev inverse-is : (c : At-After-wide)
    → Val (to_z w64 (of_z w64 (quot_z (to_z w64 (of_z w64 (to_z w64 (of_z w64 c.args.p) *ℤ pos 4503599627370496))) (to_z w64 (of_z w64 c.wide.result)))))
inverse-is c =
    v64 (v/least (v64 (v* (v64 (inside (p-in (fair c.before.before)))) vpos)) (least-val (v64 (rho-is c)) 294912 (abs-above (calm_of (fair c.before.before)).tame.low)))

-- and its third
abbrev third-is : (c : At-After-wide) → Val (to_z w64 (of_z w64 (quot_z (to_z w64 (of_z w64 (to_z w64 (of_z w64 c.args.p) *ℤ pos 34359738368))) (pos 3))))
third-is c = v64 (v/num (v64 (v* (v64 (inside (p-in (fair c.before.before)))) vpos)) num)

speed-eq : (c : At-After-speed-vx) → c.speed-vx.result ≡ speed c.args.p c.args.v.rho c.args.v.x
unfolding speed
speed-eq c =
    c.speed-vx.ensures
    ∙ ap (λ (z : ℤ). shr_z z 524288) (reads_as (v* (v32 (inside (calm_of (fair c.before.before.before.before)).tame.x)) (inverse-is c.before.before)) tt)

abbrev speed-is : (c : At-After-speed-vx) → Val c.speed-vx.result
speed-is c = let s = c.before.before.before.before in same (speed-eq c) (inside (axis-x (fair s)).u-in)

speed2-eq : (c : At-After-speed-vy) → c.speed-vy.result ≡ speed c.args.p c.args.v.rho c.args.v.y
unfolding speed
speed2-eq c =
    c.speed-vy.ensures
    ∙ ap (λ (z : ℤ). shr_z z 524288) (reads_as (v* (v32 (inside (calm_of (fair c.before.before.before.before.before.before)).tame.y)) (inverse-is c.before.before.before.before)) tt)

abbrev speed2-is : (c : At-After-speed-vy) → Val c.speed-vy.result
speed2-is c = let s = c.before.before.before.before.before.before in same (speed2-eq c) (inside (axis-y (fair s)).u-in)

speed3-eq : (c : At-After-speed-vz) → c.speed-vz.result ≡ speed c.args.p c.args.v.rho c.args.v.z
unfolding speed
speed3-eq c =
    c.speed-vz.ensures
    ∙ ap (λ (z : ℤ). shr_z z 524288) (reads_as (v* (v32 (inside (calm_of (fair c.before.before.before.before.before.before.before.before)).tame.z)) (inverse-is c.before.before.before.before.before.before)) tt)

abbrev speed3-is : (c : At-After-speed-vz) → Val c.speed-vz.result
speed3-is c = let s = c.before.before.before.before.before.before.before.before in same (speed3-eq c) (inside (axis-z (fair s)).u-in)

odd-eq : (c : At-After-odd) → c.odd.result ≡ odd c.args.p c.args.v.x
unfolding odd
odd-eq c =
    c.odd.ensures
    ∙ ap (λ (z : ℤ). shr_z z 32) (reads_as (v* (v32 (inside (calm_of (fair c.before.before.before.before.before.before.before.before.before.before)).tame.x)) (third-is c.before.before.before.before.before.before.before.before)) tt)

abbrev odd_is : (c : At-After-odd) → Val c.odd.result
odd_is c = let s = c.before.before.before.before.before.before.before.before.before.before in same (odd-eq c) (inside (axis-x (fair s)).o-in)

odd2-eq : (c : At-After-odd-2) → c.odd-2.result ≡ odd c.args.p c.args.v.y
unfolding odd
odd2-eq c =
    c.odd-2.ensures
    ∙ ap (λ (z : ℤ). shr_z z 32) (reads_as (v* (v32 (inside (calm_of (fair c.before.before.before.before.before.before.before.before.before.before.before.before)).tame.y)) (third-is c.before.before.before.before.before.before.before.before.before.before)) tt)

abbrev odd2-is : (c : At-After-odd-2) → Val c.odd-2.result
odd2-is c = let s = c.before.before.before.before.before.before.before.before.before.before.before.before in same (odd2-eq c) (inside (axis-y (fair s)).o-in)

odd3-eq : (c : At-After-odd-3) → c.odd-3.result ≡ odd c.args.p c.args.v.z
unfolding odd
odd3-eq c =
    c.odd-3.ensures
    ∙ ap (λ (z : ℤ). shr_z z 32) (reads_as (v* (v32 (inside (calm_of (fair c.before.before.before.before.before.before.before.before.before.before.before.before.before.before)).tame.z)) (third-is c.before.before.before.before.before.before.before.before.before.before.before.before)) tt)

abbrev odd3-is : (c : At-After-odd-3) → Val c.odd-3.result
odd3-is c = let s = c.before.before.before.before.before.before.before.before.before.before.before.before.before.before in same (odd3-eq c) (inside (axis-z (fair s)).o-in)

abbrev wide2-is : (c : At-After-wide-2) → Val c.wide-2.result
wide2-is c = same c.wide-2.ensures (v32 (inside (calm_of (fair c.before.before.before.before.before.before.before.before.before.before.before.before.before.before.before.before)).tame.x))

abbrev wide3-is : (c : At-After-wide-3) → Val c.wide-3.result
wide3-is c = same c.wide-3.ensures (v32 (inside (calm_of (fair c.before.before.before.before.before.before.before.before.before.before.before.before.before.before.before.before.before.before)).tame.y))

abbrev wide4-is : (c : At-After-wide-4) → Val c.wide-4.result
wide4-is c = same c.wide-4.ensures (v32 (inside (calm_of (fair c.before.before.before.before.before.before.before.before.before.before.before.before.before.before.before.before.before.before.before.before)).tame.z))

pub overflow_mul-inv : goal.overflow_mul-inv
overflow_mul-inv c = let p = p-in (fair c) in does-fit (search shifting depth 20) tt

pub nonzero_div-inv : goal.nonzero_div-inv
nonzero_div-inv c =
    let s = c.before.before.before in
    let p = p-in (fair s) in
    let l = abs-above (calm_of (fair s)).tame.low in
    let k = least-val (v64 (rho-is c.before)) 294912 l in
    (not-zero w64 (rho-is c.before) tt (omega arith), does-fit (search shifting depth 20) tt)

pub overflow_mul-c : goal.overflow_mul-c
overflow_mul-c c = let p = p-in (fair c.before.before.before) in does-fit (search shifting depth 20) tt

pub nonzero_div-c : goal.nonzero_div-c
nonzero_div-c c = let p = p-in (fair c.before.before.before) in (omega arith, does-fit (search shifting depth 20) tt)

pub speed-vx-requires : goal.speed-vx-requires
speed-vx-requires c =
    let s = c.before.before.before.before in
    let k = calm_of (fair s) in
    as_read (λ (z : ℤ). Within z 3057944146984566784) (v* (v32 (inside k.tame.x)) (inverse-is c.before.before)) tt
    (product-in s.args.p s.args.v.rho s.args.v.x (p-in (fair s)) k.x)

pub speed-vy-requires : goal.speed-vy-requires
speed-vy-requires c =
    let s = c.before.before.before.before.before.before in
    let k = calm_of (fair s) in
    as_read (λ (z : ℤ). Within z 3057944146984566784) (v* (v32 (inside k.tame.y)) (inverse-is c.before.before.before.before)) tt
    (product-in s.args.p s.args.v.rho s.args.v.y (p-in (fair s)) k.y)

pub speed-vz-requires : goal.speed-vz-requires
speed-vz-requires c =
    let s = c.before.before.before.before.before.before.before.before in
    let k = calm_of (fair s) in
    as_read (λ (z : ℤ). Within z 3057944146984566784) (v* (v32 (inside k.tame.z)) (inverse-is c.before.before.before.before.before.before)) tt
    (product-in s.args.p s.args.v.rho s.args.v.z (p-in (fair s)) k.z)

pub odd-requires : goal.odd-requires
odd-requires c =
    let s = c.before.before.before.before.before.before.before.before.before.before in
    let x = (calm_of (fair s)).tame.x in
    let p = p-in (fair s) in
    (within_by (v32 (inside x)) tt, within_by (search shifting depth 20) tt)

pub odd-requires-2 : goal.odd-requires-2
odd-requires-2 c =
    let s = c.before.before.before.before.before.before.before.before.before.before.before.before in
    let x = (calm_of (fair s)).tame.y in
    let p = p-in (fair s) in
    (within_by (v32 (inside x)) tt, within_by (search shifting depth 20) tt)

pub odd-requires-3 : goal.odd-requires-3
odd-requires-3 c =
    let s = c.before.before.before.before.before.before.before.before.before.before.before.before.before.before in
    let x = (calm_of (fair s)).tame.z in
    let p = p-in (fair s) in
    (within_by (v32 (inside x)) tt, within_by (search shifting depth 20) tt)

pub overflow_mul-wide : goal.overflow_mul-wide
overflow_mul-wide c =
    let x = wide2-is (c.before) in
    let vx = speed-is c.before.before.before.before.before.before.before.before.before.before.before.before.before in
    does-fit (search shifting depth 20) tt

pub overflow_mul-wide-2 : goal.overflow_mul-wide-2
overflow_mul-wide-2 c =
    let x = wide2-is c.before.before.before in
    let vx = speed-is c.before.before.before.before.before.before.before.before.before.before.before.before.before.before.before in
    let y = wide3-is (c.before) in
    let vy = speed2-is c.before.before.before.before.before.before.before.before.before.before.before.before.before in
    does-fit (search shifting depth 20) tt

pub overflow_add-wide : goal.overflow_add-wide
overflow_add-wide c =
    let x = wide2-is c.before.before.before in
    let vx = speed-is c.before.before.before.before.before.before.before.before.before.before.before.before.before.before.before in
    let y = wide3-is (c.before) in
    let vy = speed2-is c.before.before.before.before.before.before.before.before.before.before.before.before.before in
    does-fit (search shifting depth 20) tt

pub overflow_mul-wide-3 : goal.overflow_mul-wide-3
overflow_mul-wide-3 c =
    let x = wide2-is c.before.before.before.before.before in
    let vx = speed-is c.before.before.before.before.before.before.before.before.before.before.before.before.before.before.before.before.before in
    let y = wide3-is c.before.before.before in
    let vy = speed2-is c.before.before.before.before.before.before.before.before.before.before.before.before.before.before.before in
    let z = wide4-is (c.before) in
    let vz = speed3-is c.before.before.before.before.before.before.before.before.before.before.before.before.before in
    does-fit (search shifting depth 20) tt

pub overflow_add-wide-2 : goal.overflow_add-wide-2
overflow_add-wide-2 c =
    let x = wide2-is c.before.before.before.before.before in
    let vx = speed-is c.before.before.before.before.before.before.before.before.before.before.before.before.before.before.before.before.before in
    let y = wide3-is c.before.before.before in
    let vy = speed2-is c.before.before.before.before.before.before.before.before.before.before.before.before.before.before.before in
    let z = wide4-is (c.before) in
    let vz = speed3-is c.before.before.before.before.before.before.before.before.before.before.before.before.before in
    does-fit (search shifting depth 20) tt

pub even-requires : goal.even-requires
even-requires c =
    let s = c.before.before.before.before.before.before.before.before.before.before.before.before.before.before.before.before.before.before.before.before.before.before in
    let x = wide2-is c.before.before.before.before.before.before in
    let vx = speed-is c.before.before.before.before.before.before.before.before.before.before.before.before.before.before.before.before.before.before in
    let y = wide3-is c.before.before.before.before in
    let vy = speed2-is c.before.before.before.before.before.before.before.before.before.before.before.before.before.before.before.before in
    let z = wide4-is c.before.before in
    let vz = speed3-is c.before.before.before.before.before.before.before.before.before.before.before.before.before.before in
    (within_by (v64 (inside (p-in (fair s)))) tt, within_by (v32 (inside (calm_of (fair s)).tame.rho)) tt, within_by (search shifting depth 20) tt)

pub returns : goal.returns
unfolding even energy
returns c =
    let s = c.before.before.before.before.before.before.before.before.before.before.before.before.before.before.before.before.before.before.before.before.before.before in
    let x = wide2-is c.before.before.before.before.before.before in
    let vx = speed-is c.before.before.before.before.before.before.before.before.before.before.before.before.before.before.before.before.before.before in
    let y = wide3-is c.before.before.before.before in
    let vy = speed2-is c.before.before.before.before.before.before.before.before.before.before.before.before.before.before.before.before in
    let z = wide4-is c.before.before in
    let vz = speed3-is c.before.before.before.before.before.before.before.before.before.before.before.before.before.before in
    let e = inside (base-in (fair s)) in
    let t = v64 (v+ (v64 (v+ (v64 (v* (v64 x) (v64 vx))) (v64 (v* (v64 y) (v64 vy))))) (v64 (v* (v64 z) (v64 vz)))) in
    let b = v/num (v+ (v* (v* (v64 (inside (p-in (fair s)))) (v32 (inside (calm_of (fair s)).tame.rho))) (vpos {k = 1073741824})) (vneg (v* (vpos {k = 3}) (vshr {k = 16} t (by tt))))) (num {k = 9}) in
    record {
      vx = reads_as (v64 vx) tt;
      vy = reads_as (v64 vy) tt;
      vz = reads_as (v64 vz) tt;
      ox = reads_as (v64 (odd_is c.before.before.before.before.before.before.before.before.before.before.before.before)) tt;
      oy = reads_as (v64 (odd2-is c.before.before.before.before.before.before.before.before.before.before)) tt;
      oz = reads_as (v64 (odd3-is c.before.before.before.before.before.before.before.before)) tt;
      base = reads_as (v64 (same (c.even.ensures ∙ reads_as b tt) e)) tt;
    }
