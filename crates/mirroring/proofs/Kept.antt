-- An accepted mirror: its second set loads, has the first one's totals, is the reflection of which P13 speaks, and mirrored again is the first set; so that a
-- step of it gives reflected water. Each from the crate mirror's theorem. Assumes nothing.
use mathlib.Core.Path.{◌≡◌, refl, sym, ap, ap₂, ◌∙◌, subst}
use mathlib.Core.Bool.{Bool, true, ◌&&◌}
use mathlib.Core.List.{List, [], ◌∷◌}
use Prim.Native.Nat.{ℕ, ◌*◌}
use native.Mathlib.Omega.{arith}
use borrow.Author.Tests.{eq-eqb}
use lib.Dec.{eqb}
use lib.IntN.{ℤ, pos}
use lib.ListN.{length, get_or, take}
use Rattle.whole.specs.laws.Bools.{and-true}
use Rattle.lattice.specs.Lattice.{d3q19}
use Rattle.lattice.specs.declared.Settings.{Settings}
use Rattle.grid.specs.declared.Sides.{Sides}
use Rattle.grid.specs.Answer.{Answer}
use Rattle.grid.specs.Answer.{Done}
use Rattle.grid.specs.Grid.{cells_of, sides_good, grid_of, box}
use Rattle.grid.specs.State.{Lent, lent, State, state_of, lent_of}
use Rattle.grid.specs.Outcome.{or_refuse, good_answer, lengths_good, scene_of, step_answer, step_second, open-outcome}
use Rattle.grid.specs.Ground.{box_ground}
use Rattle.grid.proofs.Box.{grid-laid}
use Rattle.grid.proofs.Accepted.{passed, sound}
use Rattle.pumps.specs.Three.{number_in, head_of, totals_good, three_lengths, three_good, three_answer}
use Rattle.pumps.proofs.Checked.{four, head-state, head-sized, carry-three, then-checked}
use Rattle.index.specs.Held.{Held, indexed, Loads}
use Rattle.index.proofs.Indexed.{good-loads}
use Rattle.mirror.specs.Mirror.{Axes, mirror_of, mirrored, mirrored_set, reflect_set, reflect_settings}
use Rattle.mirror.specs.Demands.{Calm, Room}
use Rattle.mirror.proofs.Cells.{grid-mirror}
use Rattle.mirror.proofs.Rules.{good-too}
use Rattle.mirror.proofs.Sets.{set-reflects, exact}
use Rattle.mirror.proofs.Outcomes.{step-mirrors, lengths-too, set_back}
use Rattle.mirroring.specs.Turned.{turned_set, axes_of, turned}
use Rattle.mirroring.specs.Outcome.{mirror_answer, if_done, mirror_second}
use Rattle.mirroring.specs.Demands.{Keeps, StepsAlike}
use Rattle.mirroring.proofs.Answers.{accepted}
use Rattle.grid.specs.declared.refusals.Refusal.TheVariants.{BadLength, BadSides, BadState}

abbrev pub Claim : Type 0
Claim = (s : Sides) (axis : ℕ) (a : Lent) (b : Held) → mirror_answer s axis a b ≡ Done → Keeps s axis a b

abbrev pub StepClaim : Type 0
StepClaim = (s : Sides) (axis : ℕ) (a : Lent) (b : Held) → mirror_answer s axis a b ≡ Done
    → (g : Settings) (room : Lent) (marks : List ℕ) → step_answer s g (head_of a) room marks ≡ Done → Calm (scene_of s g (head_of a))
    → (second : Lent) (marks' : List ℕ) → Room (box_ground s) second marks' → StepsAlike s axis g a b (step_second s g (head_of a) room marks) second marks'

-- a set with the cells of one and the totals of another
abbrev joined : Lent → List ℤ → Lent
joined d totals = lent d.flags d.parts d.masses d.fills totals

one : (l : List ℤ) → length l ≡ 3 → take 1 l ≡ get_or l 0 (pos 0) ∷ []
one [] e = absurd (omega arith)
one (x ∷ l) e = refl

module _ (s : Sides) (axis : ℕ) (a : Lent) where
  abbrev t : Axes
  t = axes_of axis

  -- the reflected set, cell by cell, is the crate mirror's
  turned-is : turned s axis a ≡ joined (reflect_set s t a) a.carry
  unfolding turned turned_set reflect_set
  turned-is = refl

  turned-state : state_of 18 (turned s axis a) ≡ state_of 18 (reflect_set s t a)
  unfolding turned turned_set reflect_set mirrored_set mirrored lent_of state_of
  turned-state = refl

  turned-totals : (turned s axis a).carry ≡ a.carry
  unfolding turned turned_set
  turned-totals = refl

  head-too : reflect_set s t (head_of a) ≡ reflect_set s t a
  unfolding reflect_set mirrored_set
  head-too = ap (λ (u : State). lent_of 18 (cells_of s) (mirrored (mirror_of s t) u)) (head-state s a)

  again : turned s axis (turned s axis a) ≡ joined (reflect_set s t (reflect_set s t a)) a.carry
  unfolding turned turned_set reflect_set mirrored_set mirrored lent_of state_of
  again = refl

  module _ (good : three_answer s a ≡ Done) where
    record Passed : Type 0 where
      sides : sides_good s ≡ true
      lengths : three_lengths (cells_of s) a ≡ true
      rules : three_good s a Done ≡ Done

    pass : Passed
    unfolding three_answer
    pass =
        let x = passed (sides_good s) BadSides _ good in
        let y = passed (three_lengths (cells_of s) a) BadLength _ x.1 in
        record { sides = x.0; lengths = y.0; rules = y.1 }

    three : length a.carry ≡ 3
    three = carry-three s a pass.lengths

    head-long : lengths_good (cells_of s) (head_of a) ≡ true
    unfolding lengths_good
    head-long =
        let z = head-sized s a pass.lengths in
        let n = cells_of s in
        five (eq-eqb _ _ z.flags) (eq-eqb _ _ z.parts) (eq-eqb _ _ z.masses) (eq-eqb _ _ z.fills) (eq-eqb _ _ z.carry)
      where
        five : {k l m o p : Bool} → k ≡ true → l ≡ true → m ≡ true → o ≡ true → p ≡ true → (k && l && m && o && p) ≡ true
        five u v w x y i = u i && v i && w i && x i && y i

    -- the head of the reflected set is the reflected head
    head-is : head_of (turned s axis a) ≡ reflect_set s t (head_of a)
    unfolding turned turned_set reflect_set mirrored_set mirrored lent_of state_of
    head-is = ap (joined (reflect_set s t a)) (one a.carry three) ∙ sym head-too

    -- ---- it passes the check
    turned-long : three_lengths (cells_of s) (turned s axis a) ≡ true
    unfolding three_lengths turned turned_set reflect_set
    turned-long =
        let n = cells_of s in
        let z = exact n (reflect_set s t a) (lengths-too s t a) in
        let d = reflect_set s t a in
        and-true (eqb (length a.carry) 3) (four s d n) (eq-eqb (length a.carry) 3 three)
        (and-true (eqb (length d.flags) n && eqb (length d.parts) (19 * n) && eqb (length d.masses) n) (eqb (length d.fills) n)
        (and-true (eqb (length d.flags) n && eqb (length d.parts) (19 * n)) (eqb (length d.masses) n)
        (and-true (eqb (length d.flags) n) (eqb (length d.parts) (19 * n)) (eq-eqb _ _ z.flags) (eq-eqb _ _ z.parts))
        (eq-eqb _ _ z.masses))
        (eq-eqb _ _ z.fills))

    reflected-rules : (rest rest' : Answer) → good_answer d3q19 (grid_of s) (state_of 18 a) rest ≡ Done → good_answer d3q19 (grid_of s) (state_of 18 (reflect_set s t a)) rest' ≡ rest'
    unfolding reflect_set grid_of box cells_of d3q19
    reflected-rules = good-too d3q19 (grid_of s) (mirror_of s t) (grid-laid s) (grid-mirror s t) (state_of 18 a) (state_of 18 (reflect_set s t a)) (set-reflects (mirror_of s t) 18 (cells_of s) a)

    turned-rules : three_good s (turned s axis a) Done ≡ Done
    turned-rules =
        let totals : Answer = or_refuse (totals_good (number_in a 1) (number_in a 2)) (BadState (cells_of s)) Done in
        ap₂ (λ (u : State) (l : List ℤ). good_answer d3q19 (grid_of s) u (or_refuse (totals_good (get_or l 1 (pos 0)) (get_or l 2 (pos 0))) (BadState (cells_of s)) Done)) turned-state turned-totals
        ∙ reflected-rules totals totals pass.rules
        ∙ (sound d3q19 (grid_of s) (state_of 18 a) totals pass.rules).1

    pub turned-good : three_answer s (turned s axis a) ≡ Done
    turned-good = sym (then-checked s (turned s axis a) pass.sides turned-long) ∙ turned-rules

    -- ---- twice is the set itself
    pub turned-back : turned s axis (turned s axis a) ≡ a
    turned-back = again ∙ ap (λ (d : Lent). joined d a.carry) (ap (reflect_set s t) (sym head-too) ∙ set_back s t (head_of a) head-long)

-- ---- the call
second_is : (s : Sides) (axis : ℕ) (a : Lent) (b : Held) → mirror_answer s axis a b ≡ Done → mirror_second s axis a b ≡ indexed s (turned s axis a)
unfolding mirror_second
second_is s axis a b e = ap (λ (x : Answer). if_done x (indexed s (turned s axis a)) b) e

set_is : (s : Sides) (axis : ℕ) (a : Lent) (b : Held) → mirror_answer s axis a b ≡ Done → (mirror_second s axis a b).set ≡ turned s axis a
unfolding indexed
set_is s axis a b e = ap (λ (x : Held). x.set) (second_is s axis a b e)

pub keeps : Claim
keeps s axis a b e =
    let good = (accepted s axis a b e).good in
    let r = set_is s axis a b e in
    record {
      passes = ap (three_answer s) r ∙ turned-good s axis a good;
      loads = subst (λ (x : Held). Loads s x) (sym (second_is s axis a b e)) (good-loads s (turned s axis a) (turned-good s axis a good));
      totals = ap (λ (d : Lent). d.carry) r ∙ turned-totals s axis a;
      reflects = ap head_of r ∙ head-is s axis a good;
      back = λ c f. set_is s axis (mirror_second s axis a b).set c f ∙ ap (turned s axis) r ∙ turned-back s axis a good;
    }

pub steps_alike : StepClaim
unfolding open-outcome reflect_set
steps_alike s axis a b e g room marks accepted-step calm second marks' fits =
    let m = step-mirrors s (axes_of axis) g (head_of a) room marks accepted-step calm second marks' fits in
    let h = (keeps s axis a b e).reflects in
    record {
      accepted = ap (λ (d : Lent). step_answer s (reflect_settings (axes_of axis) g) d second marks') h ∙ m.accepted;
      result = ap (λ (d : Lent). step_second s (reflect_settings (axes_of axis) g) d second marks') h ∙ m.result;
    }
