use mathlib.Core.Path.{◌≡◌, refl, sym, ◌∙◌, subst}
use mathlib.Core.List.{List}
use mathlib.Core.Logic.{inl, inr}
use Prim.Native.Nat.{ℕ, ◌+◌, ◌<◌}
use native.Mathlib.Omega.{arith}
use lib.ListN.{length, get_or}
use Rattle.grid.proofs.Ranges.{over-gap}
use Rattle.conversion.proofs.Around.{Underway, underway-skip, underway-mark, underway-all}
use Rattle.conversion.proofs.convert.new_flags_by.Goals.{then-m-eq1, else-m-eq1, then-m-eq2, else-m-eq2}
use Rattle.conversion.proofs.convert.new_flags_by.Goals as goal

pub loop-c-preserved : goal.loop-c-preserved
loop-c-preserved c =
    let a = c.args in
    let l = c.loop-c in
    let n = c.next_marked-c.ensures.past in
    let h : l.c < length a.flags.now = omega (arith, c.requires.0.count) in
    let P : List ℕ → ℕ → Type 0 = Underway a.flags.now a.marks.now a.off.now a.low in
    -- up to the next mark nothing turns
    over-gap (P c.if-m-eq2.next) (l.c + 1) c.next_marked-c.result n.least
    (λ j k i q.
    let z : get_or a.marks.now j 0 ≡ 0 = n.before j k i in
    underway-skip a.flags.now a.marks.now a.off.now a.low c.if-m-eq2.next j q (omega (arith, n.most, c.requires.0.count)) (λ e. absurd (omega arith)) (λ e. absurd (omega arith)))
    -- a filled cell is done, then an emptied one, and one that does not turn
    (elim c.if-m-eq2.branch [
      | then-m-eq2 w ↦ elim c.if-m-eq1.branch [
        | then-m-eq1 v ↦ absurd (omega arith)
        | else-m-eq1 v ↦ underway-mark _ _ _ _ c.requires.0 c.requires.2 l.c 2 2 h w.if-m-eq2.true (inr (refl, refl)) c.if-m-eq1.next _
            (subst (λ (m : List ℕ). P m l.c) (sym v.next-is) l.invariant) (w.next-is ∙ w.turn_around-then-m-eq2.ensures)
      ]
      | else-m-eq2 w ↦ subst (λ (m : List ℕ). P m (l.c + 1)) (sym w.next-is) (elim c.if-m-eq1.branch [
        | then-m-eq1 v ↦ underway-mark _ _ _ _ c.requires.0 c.requires.2 l.c 1 0 h v.if-m-eq1.true (inl (refl, refl)) l.next _ l.invariant (v.next-is ∙ v.turn_around.ensures)
        | else-m-eq1 v ↦ underway-skip _ _ _ _ c.if-m-eq1.next l.c (subst (λ (m : List ℕ). P m l.c) (sym v.next-is) l.invariant) h v.if-m-eq1.false w.if-m-eq2.false
      ])
    ])

pub returns : goal.returns
returns c = underway-all _ _ _ _ c.requires.0 c.requires.2 c.loop-c.next c.loop-c.c c.loop-c.invariant (omega (arith, c.requires.0.count))
