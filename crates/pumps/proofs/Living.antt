-- Demand 3: over accepted steps and acts in any order, from a set that the check accepts, masses + carry + taken − poured never changes, the check goes on
-- accepting, the layer stays closed, and the carry has changed by exactly the strays. Steps by the base's own theorem over the head, acts by Kept. Assumes nothing.
use mathlib.Core.Path.{◌≡◌, refl, sym, ap, ◌∙◌}
use mathlib.Core.Bool.{true}
use lib.Dec.{eqb}
use lib.IntN.{ℤ, pos, ◌+ℤ◌, ◌-ℤ◌, +ℤ_assoc, +ℤ_idl, +ℤ_idr}
use lib.ListN.{length}
use Rattle.whole.specs.laws.Bools.{and_left}
use Rattle.lattice.specs.Lattice.{d3q19}
use Rattle.grid.specs.declared.Sides.{Sides}
use Rattle.grid.specs.Answer.{Done}
use Rattle.grid.specs.Grid.{cells_of, sides_good, grid_of}
use Rattle.grid.specs.State.{Lent, State, state_of}
use Rattle.grid.specs.Outcome.{good_answer, lengths_good, check_answer, scene_of, entry_answer, step_answer, next_of, step_second}
use Rattle.grid.specs.Demands as base
use Rattle.grid.specs.Demands.{strayed, water_of, water}
use Rattle.grid.proofs.Accepted.{passed}
use Rattle.grid.proofs.Conserved as conserved
use Rattle.pumps.specs.Three.{number_in, head_of, three_answer}
use Rattle.pumps.specs.Demands.{balance, totalled, Lived, start, acted, stepped, strayed_in, Holds}
use Rattle.pumps.proofs.Checked.{Passed, has-passed, four, head-state, accepts}
use Rattle.pumps.proofs.Base.{base-accepts, base-water}
use Rattle.pumps.proofs.Kept.{act-kept}
use Rattle.grid.specs.declared.refusals.Refusal.TheVariants.{BadLength, BadSides}

-- ---- one step
module _ (s : Sides) (b d : Lent) where
  total-state : state_of 18 (totalled d b) ≡ state_of 18 d
  unfolding state_of
  total-state = refl

  total-water : water_of s (totalled d b) ≡ water_of s d
  unfolding water_of
  total-water = ap (water (cells_of s)) total-state

  good_of : check_answer s d ≡ Done → (four s (totalled d b) (cells_of s) ≡ true) × (good_answer d3q19 (grid_of s) (state_of 18 d) Done ≡ Done)
  unfolding check_answer lengths_good
  good_of e =
      let x = passed (sides_good s) BadSides _ e in
      let y = passed (lengths_good (cells_of s) d) BadLength _ x.1 in
      (and_left (four s (totalled d b) (cells_of s)) (eqb (length d.carry) 1) y.0, y.1)

  total-good : Passed s b → check_answer s d ≡ Done → three_answer s (totalled d b) ≡ Done
  total-good p e =
      let g = good_of e in
      sym (accepts s (totalled d b) p.sides refl g.0
      (ap (λ (t : State). good_answer d3q19 (grid_of s) t Done) (head-state s (totalled d b) ∙ total-state) ∙ g.1) p.poured p.taken)

bal : (s : Sides) (b d : Lent) → water_of s d ≡ water_of s (head_of b) → balance s (totalled d b) ≡ balance s b
unfolding balance
bal s b d e = ap (λ (w : ℤ). w +ℤ number_in b 2 -ℤ number_in b 1) (total-water s b d ∙ e ∙ base-water s b)

closed_of : (s : Sides) (b : Lent) → three_answer s b ≡ Done → base.Closed 18 (grid_of s) (state_of 18 b).flag
unfolding d3q19
closed_of s b e = (has-passed s b e).sound-is.closed

head-carry : (a : Lent) (s : Sides) → (state_of 18 (head_of a)).carry ≡ number_in a 0
unfolding state_of
head-carry a s = ap (λ (t : State). t.carry) (head-state s a)

pub lived-holds : (s : Sides) (a b : Lent) → three_answer s a ≡ Done → (r : Lived s a b) → Holds s a b r
unfolding state_of check_answer lengths_good scene_of entry_answer step_answer next_of step_second water_of
lived-holds s a b h start =
    record {
      balance-same = refl;
      still-good = h;
      closed = closed_of s a h;
      carry-is = sym (+ℤ_idr (number_in a 0));
    }
lived-holds s a b h (acted {b = d} r pour c amount e) =
    let k = lived-holds s a d h r in
    let n = act-kept pour s c amount d e in
    record {
      balance-same = n.balance-kept ∙ k.balance-same;
      still-good = n.still-good;
      closed = closed_of s _ n.still-good;
      carry-is = n.carry-kept ∙ k.carry-is;
    }
lived-holds s a b h (stepped {b = d} r g second marks e) =
    let k = lived-holds s a d h r in
    let one = base.Reached.then base.Reached.start g second marks e in
    let n = conserved.conserved-holds s (head_of d) (step_second s g (head_of d) second marks) one (base-accepts s d k.still-good) in
    let good = total-good s d (step_second s g (head_of d) second marks) (has-passed s d k.still-good) n.checked in
    record {
      balance-same =
          bal s d (step_second s g (head_of d) second marks) n.water-same ∙ k.balance-same;
      still-good = good;
      closed = closed_of s _ good;
      carry-is = n.carry-is ∙ ap (λ (z : ℤ). z +ℤ (pos 0 +ℤ strayed (scene_of s g (head_of d)))) (head-carry d s ∙ k.carry-is)
          ∙ ap (λ (z : ℤ). (number_in a 0 +ℤ strayed_in r) +ℤ z) (+ℤ_idl (strayed (scene_of s g (head_of d))))
          ∙ +ℤ_assoc (number_in a 0) (strayed_in r) (strayed (scene_of s g (head_of d)));
    }
