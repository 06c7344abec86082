-- `landings::estimate::axis`: every sum fits, and neither end is negative. Assumes nothing.
use mir.Syntax.{w64}
use Rattle.whole.specs.laws.Casts.{index-asks}
use Rattle.whole.specs.laws.Machine.{Val, same, v+, v*, vneg, vpos, v32, v64, does-fit}
use Rattle.lattice.proofs.Reading.{inside}
use Rattle.landings.specs.inner.Estimate.{axis_end, axis_back}
use Rattle.landings.proofs.Loss.{shifting, vshr, by, end_is}
use Rattle.landings.proofs.estimate.axis.Goals as goal

abbrev wide_is : (c : goal.After-wide) → Val c.wide.result
wide_is c = same c.wide.ensures (v32 (inside c.requires.within.0))

pub overflow_sub-a : goal.overflow_sub-a
overflow_sub-a c = let s = c.requires in does-fit (search shifting depth 20) tt

pub overflow_add-a : goal.overflow_add-a
overflow_add-a c = let s = c.requires in does-fit (search shifting depth 20) tt

pub overflow_mul-a : goal.overflow_mul-a
overflow_mul-a c = let x = wide_is c in let s = c.requires.within in does-fit (search shifting depth 20) tt

pub overflow_add-a-2 : goal.overflow_add-a-2
overflow_add-a-2 c = let x = wide_is c in let s = c.requires.within in does-fit (search shifting depth 20) tt

pub overflow_mul-result : goal.overflow_mul-result
overflow_mul-result c = let x = wide_is c in let s = c.requires.within in does-fit (search shifting depth 20) tt

pub overflow_add-result : goal.overflow_add-result
overflow_add-result c = let x = wide_is c in let s = c.requires.within in does-fit (search shifting depth 20) tt

pub overflow_cast-result : goal.overflow_cast-result
unfolding axis_end axis_back
overflow_cast-result c =
    let s = c.requires.within in
    let b = v64 (inside s.3) in
    let o = v64 (v* (vpos {k = 2}) (v64 (inside s.2))) in
    let mid = v64 (v+ (v64 (v+ b (v64 (v+ b (vneg (vpos {k = 262144})))))) (v64 (vshr {k = 8} (v64 (v* (v64 (wide_is c)) (v64 (inside s.1)))) (by tt)))) in
    index-asks w64 (v64 (v+ mid o)) tt c.requires.pos_bound.0

pub overflow_mul-result-2 : goal.overflow_mul-result-2
overflow_mul-result-2 c = let x = wide_is c in let s = c.requires.within in does-fit (search shifting depth 20) tt

pub overflow_sub-result : goal.overflow_sub-result
overflow_sub-result c = let x = wide_is c in let s = c.requires.within in does-fit (search shifting depth 20) tt

pub overflow_cast-result-2 : goal.overflow_cast-result-2
unfolding axis_end axis_back
overflow_cast-result-2 c =
    let s = c.requires.within in
    let b = v64 (inside s.3) in
    let o = v64 (v* (vpos {k = 2}) (v64 (inside s.2))) in
    let mid = v64 (v+ (v64 (v+ b (v64 (v+ b (vneg (vpos {k = 262144})))))) (v64 (vshr {k = 8} (v64 (v* (v64 (wide_is c)) (v64 (inside s.1)))) (by tt)))) in
    index-asks w64 (v64 (v+ mid (vneg o))) tt c.requires.pos_bound.1

pub returns : goal.returns
unfolding axis_end axis_back
returns c =
    let s = c.requires.within in
    let b = v64 (inside s.3) in
    let o = v64 (v* (vpos {k = 2}) (v64 (inside s.2))) in
    let mid = v64 (v+ (v64 (v+ b (v64 (v+ b (vneg (vpos {k = 262144})))))) (v64 (vshr {k = 8} (v64 (v* (v64 (wide_is c)) (v64 (inside s.1)))) (by tt)))) in
    record {
      a = end_is (v64 (v+ mid o)) tt c.requires.pos_bound.0;
      b = end_is (v64 (v+ mid (vneg o))) tt c.requires.pos_bound.1;
    }
