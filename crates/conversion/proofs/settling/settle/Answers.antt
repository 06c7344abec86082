use Prim.Native.Nat.{◌+◌, ◌*◌, ◌≤◌, ◌<◌}
use native.Mathlib.Omega.{arith}
use lib.ListN.{length}
use Rattle.grid.specs.State.{part_of}
use Rattle.grid.proofs.Ranges.{over-gap}
use Rattle.conversion.proofs.Settles.{Upon, upon-as, upon-keep, upon-settle, upon-all, settled-list}
use Rattle.conversion.proofs.settling.settle.Goals.{then-m-ne0, else-m-ne0}
use Rattle.conversion.proofs.settling.settle.Goals as goal

pub loop-c-preserved : goal.loop-c-preserved
loop-c-preserved c =
    let a = c.args in
    let l = c.loop-c in
    let b = c.if-m-ne0 in
    let n = c.next_marked-c.ensures.past in
    let h : l.c < length a.marks.now = omega arith in
    let room : 19 * l.c + 19 ≤ length l.parts = omega (arith, c.requires.parts-there) in (
      omega arith,
      -- up to the next mark all is as it is to be
      over-gap (λ j. Upon (part_of a.parts.now) a.masses.now a.marks.now (part_of b.parts) b.masses b.marks j) (l.c + 1) c.next_marked-c.result n.least
          (λ j k i q. upon-keep _ _ _ (part_of b.parts) b.masses b.marks j q (omega (arith, n.most)) (n.before j k i))
          -- cell c is settled, whether it had a mark or not
          (elim b.branch [
            | then-m-ne0 w ↦ upon-as part_of _ _ _ (l.c + 1) w.parts-is w.masses-is w.marks-is
                (upon-settle _ _ _ (part_of l.parts) l.masses l.marks l.c l.invariant.1 h w.if-m-ne0.true (omega (arith, c.requires.masses-there)) _ _ (settled-list l.parts l.c room w.settle_cell.ensures))
            | else-m-ne0 w ↦ upon-as part_of _ _ _ (l.c + 1) w.parts-is w.masses-is w.marks-is (upon-keep _ _ _ (part_of l.parts) l.masses l.marks l.c l.invariant.1 h w.if-m-ne0.false)
          ]),
    )

pub returns : goal.returns
returns c = upon-all _ _ _ _ _ _ _ c.loop-c.invariant.1 (omega arith) (omega (arith, c.requires.parts-there)) c.requires.masses-there
