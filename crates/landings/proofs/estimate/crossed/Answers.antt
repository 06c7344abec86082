-- `landings::estimate::crossed`: sums and differences of two axes fit, and are what a diagonal takes. Assumes nothing.
use Rattle.whole.specs.laws.Machine.{Val, same, v+, vneg, v32, v64, within_by, does-fit, reads_as}
use Rattle.lattice.proofs.Reading.{inside}
use Rattle.landings.proofs.estimate.crossed.Lts as lts
use Rattle.landings.proofs.estimate.crossed.Reads as reads
use Rattle.landings.proofs.estimate.crossed.Tie as tie
use Rattle.landings.proofs.estimate.crossed.Goals as goal

abbrev At-After-wide : Type 0
At-After-wide = lts.After-wide tie.the-claims reads.Pre reads.Post tie.handed_clauses

abbrev At-After-wide-3 : Type 0
At-After-wide-3 = lts.After-wide3 tie.the-claims reads.Pre reads.Post tie.handed_clauses

abbrev wide_is : (c : At-After-wide) → Val c.wide.result
wide_is c = same c.wide.ensures (v32 (inside c.requires.within.0))

abbrev wide2-is : (c : goal.After-wide-2) → Val c.wide-2.result
wide2-is c = same c.wide-2.ensures (v32 (inside c.requires.within.1))

abbrev wide3-is : (c : At-After-wide-3) → Val c.wide-3.result
wide3-is c = same c.wide-3.ensures (v32 (inside c.requires.within.0))

abbrev wide4-is : (c : goal.After-wide-4) → Val c.wide-4.result
wide4-is c = same c.wide-4.ensures (v32 (inside c.requires.within.1))

pub overflow_add-wide : goal.overflow_add-wide
overflow_add-wide c = does-fit (v+ (v64 (wide_is c.before)) (v64 (wide2-is c))) tt

pub overflow_add-vx : goal.overflow_add-vx
overflow_add-vx c = let s = c.requires.within in does-fit (v+ (v64 (inside s.2)) (v64 (inside s.3))) tt

pub overflow_add-ox : goal.overflow_add-ox
overflow_add-ox c = let s = c.requires.within in does-fit (v+ (v64 (inside s.4)) (v64 (inside s.5))) tt

pub diagonal-m-requires : goal.diagonal-m-requires
diagonal-m-requires c =
    let s = c.before.before in
    let h = s.requires.within in
    let d = v64 (v+ (v64 (wide_is c.before)) (v64 (wide2-is c))) in
    let v = v64 (v+ (v64 (inside h.2)) (v64 (inside h.3))) in
    let o = v64 (v+ (v64 (inside h.4)) (v64 (inside h.5))) in
    let b = v64 (inside h.6) in
    record { within = (within_by d tt, within_by v tt, within_by o tt, within_by b tt); pos_bound = rw (reads_as d tt, reads_as v tt, reads_as o tt, reads_as b tt) s.requires.pos_bound }

pub overflow_sub-wide : goal.overflow_sub-wide
overflow_sub-wide c = does-fit (v+ (v64 (wide3-is c.before)) (vneg (v64 (wide4-is c)))) tt

pub overflow_sub-vx : goal.overflow_sub-vx
overflow_sub-vx c = let s = c.requires.within in does-fit (v+ (v64 (inside s.2)) (vneg (v64 (inside s.3)))) tt

pub overflow_sub-ox : goal.overflow_sub-ox
overflow_sub-ox c = let s = c.requires.within in does-fit (v+ (v64 (inside s.4)) (vneg (v64 (inside s.5)))) tt

pub diagonal-n-requires : goal.diagonal-n-requires
diagonal-n-requires c =
    let s = c.before.before.before.before.before in
    let h = s.requires.within in
    let d = v64 (v+ (v64 (wide3-is c.before)) (vneg (v64 (wide4-is c)))) in
    let v = v64 (v+ (v64 (inside h.2)) (vneg (v64 (inside h.3)))) in
    let o = v64 (v+ (v64 (inside h.4)) (vneg (v64 (inside h.5)))) in
    let b = v64 (inside h.6) in
    record { within = (within_by d tt, within_by v tt, within_by o tt, within_by b tt); pos_bound = rw (reads_as d tt, reads_as v tt, reads_as o tt, reads_as b tt) s.requires.pos_bound_2 }

pub returns : goal.returns
returns c =
    let s = c.before.before.before.before.before.before in
    let h = s.requires.within in
    let p = c.before.before.before in
    let d = v64 (v+ (v64 (wide_is p.before.before)) (v64 (wide2-is p.before))) in
    let v = v64 (v+ (v64 (inside h.2)) (v64 (inside h.3))) in
    let o = v64 (v+ (v64 (inside h.4)) (v64 (inside h.5))) in
    let b = v64 (inside h.6) in
    let m = rw (reads_as d tt, reads_as v tt, reads_as o tt, reads_as b tt) at p.diagonal-m.ensures in
    let d' = v64 (v+ (v64 (wide3-is c.before.before)) (vneg (v64 (wide4-is c.before)))) in
    let v' = v64 (v+ (v64 (inside h.2)) (vneg (v64 (inside h.3)))) in
    let o' = v64 (v+ (v64 (inside h.4)) (vneg (v64 (inside h.5)))) in
    let n = rw (reads_as d' tt, reads_as v' tt, reads_as o' tt, reads_as b tt) at c.diagonal-n.ensures in
    record { a = m.a; b = m.b; c = n.a; d = n.b }
