-- The box's run: an accepted step of a set that is ready leaves one that is ready, so that its course is lawful; and the functions' contracts, one from the
-- other. Assumes nothing.
use mathlib.Core.Path.{◌≡◌, refl, sym, ◌∙◌, subst}
use mathlib.Core.Bool.{Bool, true, false, ◌&&◌, not}
use mathlib.Core.List.{List}
use Prim.Native.Nat.{ℕ, ◌+◌, ◌≤◌, ◌<◌}
use native.Mathlib.Omega.{arith}
use lib.ListN.{length, replicate}
use borrow.Author.Tests.{eq-eqb}
use Rattle.lattice.specs.Lattice.{d3q19}
use Rattle.lattice.specs.declared.Settings.{Settings}
use Rattle.lattice.proofs.Paired.{paired19}
use Rattle.grid.specs.declared.Sides.{Sides}
use Rattle.grid.specs.Answer.{Answer}
use Rattle.grid.specs.Answer.{Done}
use Rattle.grid.specs.Grid.{cells_of, box, grid_of}
use Rattle.grid.specs.State.{Lent, state_of}
use Rattle.grid.specs.Step.{next}
use Rattle.grid.specs.Outcome.{good_answer, move_answer, lengths_good, scene_of, entry_answer, step_answer, next_of, ran, run_entry, open-outcome}
use Rattle.grid.specs.Ground.{box_ground}
use Rattle.grid.specs.Demands.{grid_answer}
use Rattle.grid.specs.inner.Between.{Sized, Ready}
use Rattle.grid.specs.inner.Halfway.{Dried, Alike, Stepping, Resuming, Advanced}
use Rattle.grid.specs.Promise.{RanTo}
use Rattle.grid.proofs.Box.{grid-laid}
use Rattle.grid.proofs.Listed.{same-listed, lengths-listed}
use Rattle.grid.proofs.Prepared.{sized, ready-dried}
use Rattle.grid.proofs.Reached.{step-good}
use Rattle.grid.proofs.Conserved.{good-any}
use Rattle.step.proofs.Finishes.{alike-sized, like-sized}
use Rattle.step.proofs.Entrance.{may-step}
use Rattle.run.specs.inner.Turns.{here, there, Crossed, Evened, Went}
use Rattle.run.proofs.Admitted.{RanOn, refuses-on, entered_on, admits, not-admitted-on, ended-on}
use Rattle.run.proofs.Courses
use Rattle.run.proofs.Courses.{Course, Lawful, Passed, Ended}
use Rattle.grid.specs.declared.refusals.Refusal.TheVariants.{BadSteps}
use Rattle.std.specs.Prelude.{Err}
use Rattle.grid.specs.declared.refusals.Refusal.{Refusal}

-- ---- an accepted step of a set that is ready
module _ (s : Sides) (g : Settings) (a : Lent) where
  pub next-sized : Sized (cells_of s) (next_of s g a)
  unfolding next_of
  next-sized = sized (cells_of s) (next_of s g a) (lengths-listed (cells_of s) (next (scene_of s g a)))

  moved : Ready s g a → move_answer (scene_of s g a) ≡ Done
      → grid_answer d3q19 (grid_of s) (state_of 18 a) (scene_of s g a).g (scene_of s g a).relax ≡ Done
  unfolding grid_answer scene_of
  moved r e = good-any s a (move_answer (scene_of s g a)) r.good ∙ e

  next-good : Ready s g a → move_answer (scene_of s g a) ≡ Done → good_answer d3q19 (grid_of s) (state_of 18 (next_of s g a)) Done ≡ Done
  unfolding grid_of box cells_of scene_of d3q19 next_of
  next-good r e =
      step-good d3q19 (grid_of s) paired19 (grid-laid s) (state_of 18 a) (state_of 18 (next_of s g a)) (scene_of s g a).g (scene_of s g a).relax (moved r e)
      (same-listed 18 (cells_of s) (next (scene_of s g a)))

  -- the theorem that spares a run its tests
  pub next-ready : Ready s g a → move_answer (scene_of s g a) ≡ Done → Ready s g (next_of s g a)
  next-ready r e = record { sides = r.sides; sized = next-sized; settings = r.settings; good = next-good r e }

  lengths-good : Sized (cells_of s) a → lengths_good (cells_of s) a ≡ true
  unfolding lengths_good
  lengths-good z = all (eq-eqb _ _ z.flags) (eq-eqb _ _ z.parts) (eq-eqb _ _ z.masses) (eq-eqb _ _ z.fills) (eq-eqb _ _ z.carry)
    where
      all : {p q r t u : Bool} → p ≡ true → q ≡ true → r ≡ true → t ≡ true → u ≡ true → (p && q && r && t && u) ≡ true
      all h i j k l m = h m && i m && j m && k m && l m

  -- of a set that is ready the definition's step answers as tests 7 and 8 do
  pub ready-answer : (marks : List ℕ) → length marks ≡ cells_of s → Ready s g a → step_answer s g a a marks ≡ move_answer (scene_of s g a)
  unfolding step_answer entry_answer
  ready-answer marks room r =
      rw (r.sides, lengths-good r.sized, eq-eqb (length marks) (cells_of s) room, r.settings) (good-any s a (move_answer (scene_of s g a)) r.good)

-- ---- the box's course
abbrev pub course : Sides → Settings → List ℕ → Course
course s g marks = record {
  cells = cells_of s;
  answer = λ a. step_answer s g a a marks;
  move = λ a. move_answer (scene_of s g a);
  onward = next_of s g;
  Fit = Ready s g;
  Sized = Sized (cells_of s);
}

lawful : (s : Sides) (g : Settings) (marks : List ℕ) → length marks ≡ cells_of s → Lawful (course s g marks)
lawful s g marks room = record {
  agrees = λ a r. ready-answer s g a marks room r;
  again = next-ready s g;
  sized = λ a r. r.sized;
  alike = λ a b x y. alike-sized x y;
}

-- ---- one turn, by the way it goes
module _ (s : Sides) (g : Settings) (back : Bool) (a b : Lent) (marks : List ℕ) where
  pub resuming-back : back ≡ true → Resuming s g (here back a b) (there back a b) marks → Resuming s g b a marks
  resuming-back e h = subst (λ (t : Bool). Resuming s g (here t a b) (there t a b) marks) e h

  pub resuming-forth : back ≡ false → Resuming s g (here back a b) (there back a b) marks → Resuming s g a b marks
  resuming-forth e h = subst (λ (t : Bool). Resuming s g (here t a b) (there t a b) marks) e h

  pub crossed-back : (answer : Answer) (first : Lent) → back ≡ true → Advanced s g b answer first marks → Crossed s g back a b answer first b marks
  crossed-back answer first e h = subst (λ (t : Bool). Crossed s g t a b answer first b marks) (sym e) (record { moved = h; kept = refl })

  pub crossed-forth : (answer : Answer) (second : Lent) → back ≡ false → Advanced s g a answer second marks → Crossed s g back a b answer a second marks
  crossed-forth answer second e h = subst (λ (t : Bool). Crossed s g t a b answer a second marks) (sym e) (record { moved = h; kept = refl })

module _ (back : Bool) (a b : Lent) where
  pub alike-back : back ≡ true → Alike (here back a b) (there back a b) → Alike b a
  alike-back e h = subst (λ (t : Bool). Alike (here t a b) (there t a b)) e h

  pub alike-forth : back ≡ false → Alike (here back a b) (there back a b) → Alike a b
  alike-forth e h = subst (λ (t : Bool). Alike (here t a b) (there t a b)) e h

  pub evened-back : (first : Lent) → back ≡ true → first ≡ b → Evened back a b first b
  evened-back first e h = subst (λ (t : Bool). Evened t a b first b) (sym e) (record { first-is = h; second_is = refl })

  pub evened-forth : (second : Lent) → back ≡ false → second ≡ a → Evened back a b a second
  evened-forth second e h = subst (λ (t : Bool). Evened t a b a second) (sym e) (record { first-is = refl; second_is = h })

-- ---- the loop

-- the flags of the set that the next turn writes tell where its parts are 0
abbrev pub Dry : Bool → Lent → Lent → Type 0
Dry back a b = Dried (there back a b).flags (there back a b).parts

-- a set that is left as it was tells it if it was good
kept-dry : (s : Sides) (g : Settings) (back : Bool) (a b first second : Lent) → Ready s g (here back a b) → here back first second ≡ here back a b → Dry (not back) first second
kept-dry s g true a b first second r e = subst (λ (x : Lent). Dried x.flags x.parts) (sym e) (ready-dried s g b r)
kept-dry s g false a b first second r e = subst (λ (x : Lent). Dried x.flags x.parts) (sym e) (ready-dried s g a r)

abbrev pub Going : ℕ → Sides → Settings → Lent → List ℕ → ℕ → Bool → Lent → Lent → List ℕ → Type 0
Going steps s g start marks₀ k back a b marks = Courses.Going (course s g marks₀) steps start k back a b marks

pub going-first : (steps : ℕ) (s : Sides) (g : Settings) (a b : Lent) (marks : List ℕ) → Stepping s g a b marks → Going steps s g a marks 0 false a b marks
going-first steps s g a b marks h =
    Courses.going-first (course s g marks) steps a b marks (lawful s g marks h.marks-room) h.ready (like-sized h.ready.sized h.alike) h.marks-room

crossed : (s : Sides) (g : Settings) (marks : List ℕ) (back : Bool) {a b first second : Lent} {after : List ℕ} {answer : Answer}
    → Crossed s g back a b answer first second after → Passed (course s g marks) back a b answer first second after
crossed s g marks back t = record { answer-is = t.moved.answer-is; second_is = t.moved.second_is; marks-are = t.moved.marks-are; kept = t.kept }

module _ (steps : ℕ) (s : Sides) (g : Settings) (start : Lent) (marks₀ : List ℕ) (k : ℕ) where
  pub went : {count : ℕ} {answer : Answer} {first second : Lent} {after : List ℕ} → Ended (course s g marks₀) steps start count answer first second after
      → Went steps s g start marks₀ count answer first second after
  unfolding ran
  went e = record { count-is = e.count-is; answer-is = e.answer-is; first-is = e.first-is; second_is = e.second_is; marks-are = e.marks-are }

  pub going-alike : (back : Bool) (a b : Lent) (marks : List ℕ) → Going steps s g start marks₀ k back a b marks → Alike (here back a b) (there back a b)
  going-alike back a b marks i = Courses.going-alike (course s g marks₀) back i

  pub going-resuming : (back : Bool) (a b : Lent) (marks : List ℕ) → Going steps s g start marks₀ k back a b marks → Dry back a b → Resuming s g (here back a b) (there back a b) marks
  going-resuming back a b marks i d = record { stepping = record { ready = i.ready; alike = going-alike back a b marks i; marks-room = i.marked }; dried = d }

  -- after a turn the next one writes the set that this one read
  pub going-dry : (back : Bool) (a b first second : Lent) (marks after : List ℕ) (answer : Answer) → Going steps s g start marks₀ k back a b marks
      → Crossed s g back a b answer first second after → Dry (not back) first second
  going-dry back a b first second marks after answer i t = kept-dry s g back a b first second i.ready t.kept

  module _ (h : k < steps) where
    pub going_on : (back : Bool) (a b first second : Lent) (marks after : List ℕ) (answer : Answer) → answer ≡ Done → Going steps s g start marks₀ k back a b marks
        → Crossed s g back a b answer first second after → Going steps s g start marks₀ (k + 1) (not back) first second after
    going_on back a b first second marks after answer e i t = Courses.going_on (course s g marks₀) h back e i (crossed s g marks₀ back t)

    pub going-stops : (back : Bool) (a b first second : Lent) (marks after : List ℕ) (answer : Answer) (refusal : Refusal) → answer ≡ Err refusal → Going steps s g start marks₀ k back a b marks
        → Crossed s g back a b answer first second after → Went steps s g start marks₀ k (Err refusal) first second after
    going-stops back a b first second marks after answer refusal q i t = went (Courses.going-stops (course s g marks₀) h back q i (crossed s g marks₀ back t))

  pub going-ends : (back : Bool) (a b first second : Lent) (marks after : List ℕ) → steps ≤ k → Going steps s g start marks₀ k back a b marks
      → Evened back a b first second → after ≡ replicate (length marks) 0 → Went steps s g start marks₀ steps Done first second after
  going-ends back a b first second marks after h i t e =
      let made : k ≡ steps = omega (arith, h, i.most) in
      subst (λ (n : ℕ). Went steps s g start marks₀ n Done first second after) made (went (Courses.going-ends (course s g marks₀) back h i t e))

-- ---- the run itself, by what admitted it
module _ (steps : ℕ) (s : Sides) (g : Settings) (a b : Lent) (marks : List ℕ) where
  -- the box is one ground
  on-ground : {count : ℕ} {answer : Answer} {first second : Lent} {after : List ℕ} → RanOn (box_ground s) steps g a b marks count answer first second after
      → RanTo steps s g a b marks count answer first second after
  unfolding open-outcome
  on-ground w = record { count-is = w.count-is; answer-is = w.answer-is; first-is = w.first-is; second_is = w.second_is; marks-are = w.marks-are }

  pub refuses-steps : 1000 < steps → Err BadSteps ≡ run_entry steps s g a b marks
  unfolding open-outcome
  refuses-steps h = refuses-on (box_ground s) steps g a b marks h

  pub then-entered : steps ≤ 1000 → entry_answer s g a b marks Done ≡ run_entry steps s g a b marks
  unfolding open-outcome
  then-entered h = entered_on (box_ground s) steps g a b marks h

  pub run-stepping : run_entry steps s g a b marks ≡ Done → Stepping s g a b marks
  unfolding open-outcome
  run-stepping e = may-step s g a b marks (admits (box_ground s) steps g a b marks e)

  pub not-admitted : (refusal : Refusal) → Err refusal ≡ run_entry steps s g a b marks → RanTo steps s g a b marks 0 (Err refusal) a b marks
  unfolding open-outcome
  not-admitted refusal e = on-ground (not-admitted-on (box_ground s) steps g a b marks e)

  pub admitted-went : (count : ℕ) (answer : Answer) (first second : Lent) (after : List ℕ) → Done ≡ run_entry steps s g a b marks
      → Went steps s g a marks count answer first second after → RanTo steps s g a b marks count answer first second after
  unfolding open-outcome
  admitted-went count answer first second after e w =
      on-ground (ended-on (box_ground s) steps g a b marks e w.count-is w.answer-is w.first-is w.second_is w.marks-are)
