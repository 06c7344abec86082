-- Tests 1 to 6 before the box's step: what an answer Done tells of the sets, and that what they refuse the step refuses, writing nothing. Assumes nothing.
use mathlib.Core.Path.{◌≡◌, refl, ap, ◌∙◌}
use mathlib.Core.Bool.{Bool, true, false, ◌&&◌}
use mathlib.Core.List.{List}
use Prim.Native.Nat.{ℕ, ◌*◌}
use lib.Dec.{eqb}
use lib.ListN.{length}
use borrow.Author.Tests.{eqb-true}
use Rattle.whole.specs.laws.Bools.{and_left, and_right}
use Rattle.lattice.specs.Lattice.{d3q19}
use Rattle.lattice.specs.Cell.{relaxation_good, gravity_good}
use Rattle.lattice.specs.declared.Settings.{Settings}
use Rattle.grid.specs.declared.Sides.{Sides}
use Rattle.grid.specs.Answer.{Answer}
use Rattle.grid.specs.Answer.{Done}
use Rattle.grid.specs.Grid.{cells_of, sides_good, grid_of}
use Rattle.grid.specs.State.{Lent, state_of}
use Rattle.grid.specs.Outcome.{or_refuse, good_answer, lengths_good, settings_good, entry_answer, open-outcome}
use Rattle.grid.specs.Ground.{box_ground}
use Rattle.grid.specs.inner.Between.{Sized}
use Rattle.grid.specs.inner.Halfway.{Stepping, Advanced}
use Rattle.grid.specs.Promise.{Stepped}
use Rattle.grid.proofs.Accepted.{passed}
use Rattle.grid.proofs.Prepared.{sized}
use Rattle.step.proofs.Entered.{SteppedOn, refused-on, stepped-on}
use Rattle.step.proofs.Finishes.{alike-sized}
use Rattle.grid.specs.declared.refusals.Refusal.TheVariants.{BadLength, BadSetting, BadSides}
use Rattle.std.specs.Prelude.{Err}
use Rattle.grid.specs.declared.refusals.Refusal.{Refusal}

module _ (s : Sides) (g : Settings) (a b : Lent) (marks : List ℕ) where
  -- the box is one ground
  on-ground : {answer : Answer} {second : Lent} {after : List ℕ} → SteppedOn (box_ground s) g a b marks answer second after → Stepped s g a b marks answer second after
  unfolding open-outcome
  on-ground w = record { answer-is = w.answer-is; second_is = w.second_is; marks-are = w.marks-are }

  -- a step that one of them refuses
  pub refused : {refusal : Refusal} → Err refusal ≡ entry_answer s g a b marks Done → Stepped s g a b marks (Err refusal) b marks
  unfolding entry_answer lengths_good
  refused e = on-ground (refused-on (box_ground s) g a b marks e)

  -- ---- a step that passes them
  module _ (e : entry_answer s g a b marks Done ≡ Done) where
    sides : (sides_good s ≡ true) × (or_refuse (lengths_good (cells_of s) a && lengths_good (cells_of s) b && eqb (length marks) (cells_of s)) BadLength
        (or_refuse (settings_good g) (BadSetting 0) (good_answer d3q19 (grid_of s) (state_of 18 a) Done)) ≡ Done)
    unfolding entry_answer
    sides = passed (sides_good s) BadSides _ e

    lengths : ((lengths_good (cells_of s) a && lengths_good (cells_of s) b && eqb (length marks) (cells_of s)) ≡ true)
        × (or_refuse (settings_good g) (BadSetting 0) (good_answer d3q19 (grid_of s) (state_of 18 a) Done) ≡ Done)
    lengths = passed (lengths_good (cells_of s) a && lengths_good (cells_of s) b && eqb (length marks) (cells_of s)) BadLength _ sides.1

    settings : (settings_good g ≡ true) × (good_answer d3q19 (grid_of s) (state_of 18 a) Done ≡ Done)
    settings = passed (settings_good g) (BadSetting 0) _ lengths.1

    both : (lengths_good (cells_of s) a && lengths_good (cells_of s) b) ≡ true
    both = and_left (lengths_good (cells_of s) a && lengths_good (cells_of s) b) (eqb (length marks) (cells_of s)) lengths.0

    first-sized : Sized (cells_of s) a
    first-sized = sized (cells_of s) a (and_left (lengths_good (cells_of s) a) (lengths_good (cells_of s) b) both)

    pub may-step : Stepping s g a b marks
    may-step = record {
      ready = record { sides = sides.0; sized = first-sized; settings = settings.0; good = settings.1 };
      alike = alike-sized first-sized (sized (cells_of s) b (and_right (lengths_good (cells_of s) a) (lengths_good (cells_of s) b) both));
      marks-room = eqb-true (length marks) (cells_of s) (and_right (lengths_good (cells_of s) a && lengths_good (cells_of s) b) (eqb (length marks) (cells_of s)) lengths.0);
    }

    pub stepped : {answer : Answer} {second : Lent} {after : List ℕ} → Advanced s g a answer second after → Stepped s g a b marks answer second after
    unfolding open-outcome
    stepped d = on-ground (stepped-on (box_ground s) g a b marks e d.answer-is d.second_is d.marks-are)

  -- ---- the answer, test by test: what the tests of lengths and settings find
  pub lengths-told : {n : ℕ} {x y : Bool} → n ≡ cells_of s
      → x ≡ (eqb (length a.flags) n && eqb (length a.parts) (19 * n) && eqb (length a.masses) n && eqb (length a.fills) n && eqb (length a.carry) 1)
      → y ≡ (eqb (length b.flags) n && eqb (length b.parts) (19 * n) && eqb (length b.masses) n && eqb (length b.fills) n && eqb (length b.carry) 1)
      → (x && y && eqb (length marks) n) ≡ (lengths_good (cells_of s) a && lengths_good (cells_of s) b && eqb (length marks) (cells_of s))
  unfolding lengths_good
  lengths-told {n} e p q = (λ i. p i && q i && eqb (length marks) n) ∙ ap (λ (m : ℕ). lengths_good m a && lengths_good m b && eqb (length marks) m) e

  pub settings-told : {x : Bool} → x ≡ (relaxation_good g.p && gravity_good g.gx g.gy g.gz) → x ≡ settings_good g
  unfolding settings_good
  settings-told e = e

  pub refuses-sides : sides_good s ≡ false → Err BadSides ≡ entry_answer s g a b marks Done
  unfolding entry_answer
  refuses-sides e = rw e refl

  module _ (es : sides_good s ≡ true) where
    pub refuses-lengths : (lengths_good (cells_of s) a && lengths_good (cells_of s) b && eqb (length marks) (cells_of s)) ≡ false → Err BadLength ≡ entry_answer s g a b marks Done
    unfolding entry_answer
    refuses-lengths e = rw (es, e) refl

    module _ (el : (lengths_good (cells_of s) a && lengths_good (cells_of s) b && eqb (length marks) (cells_of s)) ≡ true) where
      pub refuses-settings : settings_good g ≡ false → Err (BadSetting 0) ≡ entry_answer s g a b marks Done
      unfolding entry_answer
      refuses-settings e = rw (es, el, e) refl

      pub first_good : Sized (cells_of s) a
      first_good =
          sized (cells_of s) a (and_left (lengths_good (cells_of s) a) (lengths_good (cells_of s) b) (and_left (lengths_good (cells_of s) a && lengths_good (cells_of s) b) (eqb (length marks) (cells_of s)) el))

      pub then-good : settings_good g ≡ true → good_answer d3q19 (grid_of s) (state_of 18 a) Done ≡ entry_answer s g a b marks Done
      unfolding entry_answer
      then-good e = rw (es, el, e) refl
