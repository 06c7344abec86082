use Rattle.std.proofs.Common.{ℕ, ◌-◌, refl, sym, ap, arith}
use Rattle.pools.proofs.Flooding.{marked-wet, around-first, around-all, may-touch, touched, from_low, near-is, near-cell, few-cells}
use Rattle.pools.proofs.flood.spread.Goals as goal

pub overflow_sub-k : goal.overflow_sub-k
overflow_sub-k c = let (laid, sound, h, m) = c.requires in
    omega (arith, c.low_of.ensures, from_low laid.flagged c.args.off.now laid.table (marked-wet laid sound h m))

pub loop-i-init : goal.loop-i-init
loop-i-init c = around-first c.requires.1

pub overflow_add-k : goal.overflow_add-k
overflow_add-k c = let (laid, sound, h, m) = c.requires in
    let e = ap (λ (l : ℕ). c.args.d - l) c.low_of.ensures in
    omega (arith, near-cell laid.flagged c.args.off.now laid.table (marked-wet laid sound h m) _ c.loop-i.i e (omega arith), few-cells laid.flagged, laid.flagged.count)

pub touch-end-requires : goal.touch-end-requires
touch-end-requires c = let (laid, sound, h, m) = c.requires in
    let e = ap (λ (l : ℕ). c.args.d - l) c.low_of.ensures in
    let v = marked-wet laid sound h m in
    may-touch laid.flagged v m c.loop-i.invariant _ (near-cell laid.flagged c.args.off.now laid.table v _ c.loop-i.i e (omega arith))

pub loop-i-preserved : goal.loop-i-preserved
loop-i-preserved c = let (laid, sound, h, m) = c.requires in
    let e = ap (λ (l : ℕ). c.args.d - l) c.low_of.ensures in
    let v = marked-wet laid sound h m in
    touched laid.flagged v m c.loop-i.invariant _ (near-cell laid.flagged c.args.off.now laid.table v _ c.loop-i.i e (omega arith))
    (sym (near-is laid.flagged c.args.off.now laid.table v _ c.loop-i.i e (omega arith))) (omega arith) (omega arith) _ refl c.touch-end.ensures

pub returns : goal.returns
returns c = around-all (omega arith) c.loop-i.invariant
