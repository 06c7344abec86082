use mathlib.Core.Path.{◌≡◌, sym, ap, ◌∙◌, subst}
use mathlib.Core.Bool.{Bool, cond}
use mathlib.Core.List.{List}
use Prim.Native.Nat.{ℕ, ◌+◌, ◌<◌}
use native.Mathlib.Omega.{arith}
use lib.ListN.{length, get_or}
use Rattle.grid.specs.inner.Passes.{kept_by}
use Rattle.grid.proofs.Ranges.{Ranged, over-gap, ranged-more, ranged-keep}
use Rattle.conversion.proofs.Marking.{settled-turn, settled-skip, settled}
use Rattle.conversion.proofs.emptying.settle_marks_by.Goals.{then-marks-c-eq2, else-marks-c-eq2}
use Rattle.conversion.proofs.emptying.settle_marks_by.Goals as goal

pub loop-c-preserved : goal.loop-c-preserved
loop-c-preserved c =
    let a = c.args.marks.now in
    let off = c.args.off.now in
    let low = c.args.low in
    let l = c.loop-c in
    let b = c.if-marks-c-eq2 in
    let n = c.next_marked-c.ensures.past in
    let h : l.c < length a = omega arith in
    let P : List ℕ → ℕ → Type 0 = Ranged 0 (kept_by a off low) a 0 (length a) in
    -- up to the next mark nothing is to be settled
    over-gap (P b.marks) (l.c + 1) c.next_marked-c.result n.least
    (λ j k i q. ranged-keep 0 (kept_by a off low) a 0 (length a) b.marks j q (omega (arith, n.most))
    (settled-skip a off low (length a) q (λ e. let z : 0 ≡ get_or b.marks j 0 = sym (n.before j k i) in absurd (omega (arith, z, e)))))
    -- cell c is settled, whether it was to be emptied or not
    (elim b.branch [
      | then-marks-c-eq2 w ↦ subst (λ (m : List ℕ). P m (l.c + 1)) (sym w.marks-is)
          (ranged-more 0 (kept_by a off low) a 0 (length a) l.marks l.c _ l.invariant h (omega arith)
          (settled-turn a off low (length a) l.invariant _ w.if-marks-c-eq2.true (w.kept.ensures ∙ ap (λ (t : Bool). cond t 0 2) w.beside.ensures)))
      | else-marks-c-eq2 w ↦ subst (λ (m : List ℕ). P m (l.c + 1)) (sym w.marks-is)
          (ranged-keep 0 (kept_by a off low) a 0 (length a) l.marks l.c l.invariant h (settled-skip a off low (length a) l.invariant w.if-marks-c-eq2.false))
    ])

pub returns : goal.returns
returns c = settled c.args.marks.now c.args.off.now c.loop-c.marks c.args.low c.loop-c.c c.loop-c.invariant (omega arith)
