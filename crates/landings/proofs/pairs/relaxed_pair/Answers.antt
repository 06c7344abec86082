-- `landings::pairs::relaxed_pair`: Q's even and odd part fit, and both parts are relaxed by them. Assumes nothing.
use Rattle.whole.specs.laws.Bounds.{abs-above}
use Rattle.whole.specs.laws.Machine.{Val, machine, same, v*, v32, vpos, within_by, does-fit, reads_as}
use Rattle.lattice.proofs.Reading.{reading, inside, is-least}
use Rattle.landings.proofs.pairs.relaxed_pair.Lts as lts
use Rattle.landings.proofs.pairs.relaxed_pair.Reads as reads
use Rattle.landings.proofs.pairs.relaxed_pair.Tie as tie
use Rattle.landings.proofs.pairs.relaxed_pair.Goals as goal

abbrev At-After-times : Type 0
At-After-times = lts.After-times tie.the-claims reads.Pre reads.Post

abbrev At-After-times-odd : Type 0
At-After-times-odd = lts.After-times2 tie.the-claims reads.Pre reads.Post

-- 9d² and −6ρ·d
abbrev square-is : (c : At-After-times) → Val c.times.result
square-is c = let d = v32 (inside c.requires.4) in same c.times.ensures (v* (v32 (v* vpos d)) d)

abbrev odd_is : (c : At-After-times-odd) → Val c.times-odd.result
odd_is c =
    let s = c.before.before.before.before.before in
    same c.times-odd.ensures (v* (v32 (inside s.requires.0.six)) (v32 (inside s.requires.4)))

pub overflow_mul-d : goal.overflow_mul-d
overflow_mul-d c = let d = c.requires.4 in does-fit (search reading depth 20) tt

pub overflow_add-even : goal.overflow_add-even
overflow_add-even c =
    let d = c.before.before.before in
    let b = d.requires.0.base in
    let q = square-is d in
    does-fit (search reading depth 20) tt

pub overflow_sub-even : goal.overflow_sub-even
overflow_sub-even c =
    let d = c.before.before.before.before.before in
    let b = d.requires.0.base in
    let q = square-is d in
    let o = odd_is c.before in
    does-fit (search reading depth 20) tt

pub relaxed-requires : goal.relaxed-requires
relaxed-requires c =
    let d = c.before.before.before.before.before in
    let s = d.before in
    let f = s.requires.1 in
    let w = s.requires.3 in
    let b = s.requires.0.base in
    let q = square-is d in
    let o = odd_is c.before in
    (s.requires.0, within_by (search reading depth 20) tt, within_by (search reading depth 20) tt, within_by (search reading depth 20) tt)

pub overflow_add-even-2 : goal.overflow_add-even-2
overflow_add-even-2 c =
    let d = c.before.before.before.before.before.before in
    let b = d.requires.0.base in
    let q = square-is d in
    let o = odd_is c.before.before in
    does-fit (search reading depth 20) tt

pub relaxed-requires-2 : goal.relaxed-requires-2
relaxed-requires-2 c =
    let d = c.before.before.before.before.before.before in
    let s = d.before in
    let g = s.requires.2 in
    let w = s.requires.3 in
    let b = s.requires.0.base in
    let q = square-is d in
    let o = odd_is c.before.before in
    (s.requires.0, within_by (search reading depth 20) tt, within_by (search reading depth 20) tt, within_by (search reading depth 20) tt)

pub returns : goal.returns
returns c =
    let d = c.before.before.before.before.before.before in
    let s = d.before in
    let f = s.requires.1 in
    let g = s.requires.2 in
    let w = s.requires.3 in
    let k = s.requires.0 in
    let b = k.base in
    let m = k.seventy in
    let p = k.p in
    let q = square-is d in
    let o = odd_is c.before.before in
    let n = is-least s.args.k.den 21743271936 (abs-above k.low) in
    let x = same c.relaxed.ensures.0 (search reading depth 30 fits 5000) in
    let y = same c.relaxed-2.ensures.0 (search reading depth 30 fits 5000) in
    record {
      a = reads_as (search machine depth 20) tt;
      b = reads_as (search machine depth 20) tt;
      a_in = within_by (search machine depth 20) tt;
      b-in = within_by (search machine depth 20) tt;
    }
