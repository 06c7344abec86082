-- What the base sees of a set with three numbers, lent its first as the carry: its check accepts wherever the check with three numbers does, and its total
-- is the same. So step, run and their theorems are asked over the head, and acts over the whole slice. Assumes nothing.
use mathlib.Core.Path.{◌≡◌, ap, ◌∙◌}
use mathlib.Core.Bool.{true}
use Prim.Native.Nat.{◌*◌}
use lib.ListN.{length}
use borrow.Author.Tests.{eq-eqb}
use Rattle.whole.specs.laws.Bools.{and-true}
use Rattle.lattice.specs.Lattice.{d3q19}
use Rattle.grid.specs.declared.Sides.{Sides}
use Rattle.grid.specs.Answer.{Done}
use Rattle.grid.specs.Grid.{cells_of, grid_of, box}
use Rattle.grid.specs.State.{Lent, State, state_of}
use Rattle.grid.specs.Demands.{water, water_of}
use Rattle.grid.specs.Outcome.{good_answer, lengths_good, check_answer}
use Rattle.grid.proofs.Accepted.{pass-good}
use Rattle.pumps.specs.Three.{head_of, three_answer}
use Rattle.pumps.proofs.Checked.{Passed, has-passed, head-state}

module _ (s : Sides) (a : Lent) where
  lengths-headed : Passed s a → lengths_good (cells_of s) (head_of a) ≡ true
  unfolding lengths_good
  lengths-headed p =
      let n = cells_of s in
      let h = head_of a in
      and-true _ _
      (and-true _ _
      (and-true _ _ (and-true _ _ (eq-eqb (length h.flags) n p.sized.flags) (eq-eqb (length h.parts) (19 * n) p.sized.parts))
      (eq-eqb (length h.masses) n p.sized.masses))
      (eq-eqb (length h.fills) n p.sized.fills))
      (eq-eqb (length h.carry) 1 p.sized.carry)

  good-headed : Passed s a → good_answer d3q19 (grid_of s) (state_of 18 (head_of a)) Done ≡ Done
  unfolding grid_of box cells_of
  good-headed p =
      ap (λ (t : State). good_answer d3q19 (grid_of s) t Done) (head-state s a)
      ∙ pass-good d3q19 (grid_of s) (state_of 18 a) Done p.sound-is.flagged p.sound-is.walled p.sound-is.closed p.rules

  pub base-accepts : three_answer s a ≡ Done → check_answer s (head_of a) ≡ Done
  unfolding check_answer
  base-accepts e =
      let p = has-passed s a e in
      simp (p.sides, lengths-headed p) (good-headed p)

  pub base-water : water_of s (head_of a) ≡ water_of s a
  unfolding water_of
  base-water = ap (water (cells_of s)) (head-state s a)
