-- `landings::estimate::diagonal`: every sum fits, and neither end is negative. Assumes nothing.
use mir.Syntax.{w64}
use Rattle.whole.specs.laws.Casts.{index-asks}
use Rattle.whole.specs.laws.Machine.{v+, v*, vneg, vpos, v64, does-fit}
use Rattle.lattice.proofs.Reading.{inside}
use Rattle.landings.specs.inner.Estimate.{diagonal_end, diagonal_back}
use Rattle.landings.proofs.Loss.{shifting, vshr, by, end_is}
use Rattle.landings.proofs.estimate.diagonal.Goals as goal

pub overflow_sub-a : goal.overflow_sub-a
overflow_sub-a c = let s = c.requires.within in does-fit (search shifting depth 20) tt

pub overflow_mul-a : goal.overflow_mul-a
overflow_mul-a c = let s = c.requires.within in does-fit (search shifting depth 20) tt

pub overflow_add-a : goal.overflow_add-a
overflow_add-a c = let s = c.requires.within in does-fit (search shifting depth 20) tt

pub overflow_add-result : goal.overflow_add-result
overflow_add-result c = let s = c.requires.within in does-fit (search shifting depth 20) tt

pub overflow_cast-result : goal.overflow_cast-result
unfolding diagonal_end diagonal_back
overflow_cast-result c =
    let s = c.requires.within in
    let o = v64 (inside s.2) in
    let mid = v64 (v+ (v64 (v+ (v64 (inside s.3)) (vneg (vpos {k = 262144})))) (v64 (vshr {k = 16} (v64 (v* (v64 (inside s.0)) (v64 (inside s.1)))) (by tt)))) in
    index-asks w64 (v64 (v+ mid o)) tt c.requires.pos_bound.0

pub overflow_sub-result : goal.overflow_sub-result
overflow_sub-result c = let s = c.requires.within in does-fit (search shifting depth 20) tt

pub overflow_cast-result-2 : goal.overflow_cast-result-2
unfolding diagonal_end diagonal_back
overflow_cast-result-2 c =
    let s = c.requires.within in
    let o = v64 (inside s.2) in
    let mid = v64 (v+ (v64 (v+ (v64 (inside s.3)) (vneg (vpos {k = 262144})))) (v64 (vshr {k = 16} (v64 (v* (v64 (inside s.0)) (v64 (inside s.1)))) (by tt)))) in
    index-asks w64 (v64 (v+ mid (vneg o))) tt c.requires.pos_bound.1

pub returns : goal.returns
unfolding diagonal_end diagonal_back
returns c =
    let s = c.requires.within in
    let o = v64 (inside s.2) in
    let mid = v64 (v+ (v64 (v+ (v64 (inside s.3)) (vneg (vpos {k = 262144})))) (v64 (vshr {k = 16} (v64 (v* (v64 (inside s.0)) (v64 (inside s.1)))) (by tt)))) in
    record {
      a = end_is (v64 (v+ mid o)) tt c.requires.pos_bound.0;
      b = end_is (v64 (v+ mid (vneg o))) tt c.requires.pos_bound.1;
    }
