-- The turns of a flume's run: an accepted step of a set that is ready leaves one that is ready, so that its course is lawful; and the functions' contracts,
-- one from the other. Assumes nothing.
use mathlib.Core.Path.{◌≡◌, refl, sym, ◌∙◌, subst}
use mathlib.Core.Bool.{Bool, true, false, ◌&&◌, not}
use mathlib.Core.List.{List}
use Prim.Native.Nat.{ℕ, ◌+◌, ◌≤◌, ◌<◌}
use native.Mathlib.Omega.{arith}
use lib.ListN.{length, replicate}
use borrow.Author.Tests.{eq-eqb}
use Rattle.lattice.specs.Lattice.{d2q9}
use Rattle.lattice.proofs.Paired.{paired9}
use Rattle.grid.specs.Answer.{Answer}
use Rattle.grid.specs.Answer.{Done}
use Rattle.grid.specs.Grid.{flume}
use Rattle.grid.specs.State.{Lent, state_of}
use Rattle.grid.specs.Step.{next}
use Rattle.grid.specs.Outcome.{good_answer, move_answer}
use Rattle.grid.specs.Demands.{grid_answer}
use Rattle.grid.specs.inner.Halfway.{Alike}
use Rattle.grid.proofs.Conserved.{good-any-on}
use Rattle.grid.proofs.Listed.{same-listed}
use Rattle.grid.proofs.Reached.{step-good}
use Rattle.run.specs.inner.Turns.{here, there, Evened}
use Rattle.run.proofs.Courses
use Rattle.run.proofs.Courses.{Course, Lawful, Passed, Ended}
use Rattle.flume.specs.declared.FlumeSides.{FlumeSides}
use Rattle.flume.specs.declared.FlumeSettings.{FlumeSettings}
use Rattle.flume.specs.Flume.{flume_cells, flume_grid, flume_lengths}
use Rattle.flume.specs.Outcome.{flume_scene, flume_step, flume_next, open-outcome}
use Rattle.flume.proofs.Demands.{flume-laid}
use Rattle.flumegrid.specs.inner.Ready.{FlumeSized, FlumeReady, FlumeEntered, FlumeDried, FlumeResuming}
use Rattle.flumegrid.proofs.Poise.{poised, dried}
use Rattle.flumestep.specs.inner.Advanced.{FlumeAdvanced}
use Rattle.flumefinish.proofs.Finishes.{next-sized}
use Rattle.flumestep.proofs.Advances.{alike-sized}
use Rattle.flumeturns.specs.inner.Turns.{FlumeCrossed, FlumeWent}
use Rattle.std.specs.Prelude.{Err}
use Rattle.grid.specs.declared.refusals.Refusal.{Refusal}

-- ---- an accepted step of a set that is ready
module _ (s : FlumeSides) (g : FlumeSettings) (a : Lent) where
  moved : FlumeReady s g a → move_answer (flume_scene s g a) ≡ Done
      → grid_answer d2q9 (flume_grid s) (state_of 8 a) (flume_scene s g a).g (flume_scene s g a).relax ≡ Done
  unfolding grid_answer flume_scene
  moved r e = good-any-on d2q9 (flume_grid s) (state_of 8 a) (move_answer (flume_scene s g a)) r.good ∙ e

  next-good : FlumeReady s g a → move_answer (flume_scene s g a) ≡ Done → good_answer d2q9 (flume_grid s) (state_of 8 (flume_next s g a)) Done ≡ Done
  unfolding flume_grid flume flume_cells flume_scene flume_next d2q9
  next-good r e =
      step-good d2q9 (flume_grid s) paired9 (flume-laid s) (state_of 8 a) (state_of 8 (flume_next s g a)) (flume_scene s g a).g (flume_scene s g a).relax (moved r e)
      (same-listed 8 (flume_cells s) (next (flume_scene s g a)))

  -- the theorem that spares a run its tests
  pub next-ready : FlumeReady s g a → move_answer (flume_scene s g a) ≡ Done → FlumeReady s g (flume_next s g a)
  next-ready r e = record { sides = r.sides; sized = next-sized s g a; settings = r.settings; good = next-good r e }

  lengths-good : FlumeSized (flume_cells s) a → flume_lengths (flume_cells s) a ≡ true
  unfolding flume_lengths
  lengths-good z = all (eq-eqb _ _ z.flags) (eq-eqb _ _ z.parts) (eq-eqb _ _ z.masses) (eq-eqb _ _ z.fills) (eq-eqb _ _ z.carry)
    where
      all : {p q r t u : Bool} → p ≡ true → q ≡ true → r ≡ true → t ≡ true → u ≡ true → (p && q && r && t && u) ≡ true
      all h i j k l m = h m && i m && j m && k m && l m

  -- of a set that is ready the definition's step answers as tests 7 and 8 do
  pub ready-answer : (marks : List ℕ) → length marks ≡ flume_cells s → FlumeReady s g a → flume_step s g a a marks ≡ move_answer (flume_scene s g a)
  unfolding flume_step flume_scene flume_lengths
  ready-answer marks room r =
      rw (r.sides, lengths-good r.sized, eq-eqb (length marks) (flume_cells s) room, r.settings)
      (good-any-on d2q9 (flume_grid s) (state_of 8 a) (move_answer (flume_scene s g a)) r.good)

-- ---- the flume's course
abbrev pub course : FlumeSides → FlumeSettings → List ℕ → Course
course s g marks = record {
  cells = flume_cells s;
  answer = λ a. flume_step s g a a marks;
  move = λ a. move_answer (flume_scene s g a);
  onward = flume_next s g;
  Fit = FlumeReady s g;
  Sized = FlumeSized (flume_cells s);
}

lawful : (s : FlumeSides) (g : FlumeSettings) (marks : List ℕ) → length marks ≡ flume_cells s → Lawful (course s g marks)
lawful s g marks room = record {
  agrees = λ a r. ready-answer s g a marks room r;
  again = next-ready s g;
  sized = λ a r. r.sized;
  alike = λ a b x y. alike-sized x y;
}

-- ---- one turn, by the way it goes
module _ (s : FlumeSides) (g : FlumeSettings) (back : Bool) (a b : Lent) (marks : List ℕ) where
  pub resuming-back : back ≡ true → FlumeResuming s g (here back a b) (there back a b) marks → FlumeResuming s g b a marks
  resuming-back e h = subst (λ (t : Bool). FlumeResuming s g (here t a b) (there t a b) marks) e h

  pub resuming-forth : back ≡ false → FlumeResuming s g (here back a b) (there back a b) marks → FlumeResuming s g a b marks
  resuming-forth e h = subst (λ (t : Bool). FlumeResuming s g (here t a b) (there t a b) marks) e h

  pub crossed-back : (answer : Answer) (first : Lent) → back ≡ true → FlumeAdvanced s g b answer first marks → FlumeCrossed s g back a b answer first b marks
  crossed-back answer first e h = subst (λ (t : Bool). FlumeCrossed s g t a b answer first b marks) (sym e) (record { moved = h; kept = refl })

  pub crossed-forth : (answer : Answer) (second : Lent) → back ≡ false → FlumeAdvanced s g a answer second marks → FlumeCrossed s g back a b answer a second marks
  crossed-forth answer second e h = subst (λ (t : Bool). FlumeCrossed s g t a b answer a second marks) (sym e) (record { moved = h; kept = refl })

-- ---- the loop

-- the flags of the set that the next turn writes tell where its parts are 0
abbrev pub Dry : FlumeSides → Bool → Lent → Lent → Type 0
Dry s back a b = FlumeDried s (there back a b).flags (there back a b).parts

-- a set that is left as it was tells it if it was good
kept-dry : (s : FlumeSides) (g : FlumeSettings) (back : Bool) (a b first second : Lent) → FlumeReady s g (here back a b) → here back first second ≡ here back a b → Dry s (not back) first second
kept-dry s g true a b first second r e = subst (λ (x : Lent). FlumeDried s x.flags x.parts) (sym e) (dried s g _ (poised s g b r))
kept-dry s g false a b first second r e = subst (λ (x : Lent). FlumeDried s x.flags x.parts) (sym e) (dried s g _ (poised s g a r))

abbrev pub Going : ℕ → FlumeSides → FlumeSettings → Lent → List ℕ → ℕ → Bool → Lent → Lent → List ℕ → Type 0
Going steps s g start marks₀ k back a b marks = Courses.Going (course s g marks₀) steps start k back a b marks

pub going-first : (steps : ℕ) (s : FlumeSides) (g : FlumeSettings) (a b : Lent) (marks : List ℕ) → FlumeEntered s g a b marks → Going steps s g a marks 0 false a b marks
going-first steps s g a b marks h =
    Courses.going-first (course s g marks) steps a b marks (lawful s g marks h.marks-room) h.ready h.second h.marks-room

crossed : (s : FlumeSides) (g : FlumeSettings) (marks : List ℕ) (back : Bool) {a b first second : Lent} {after : List ℕ} {answer : Answer}
    → FlumeCrossed s g back a b answer first second after → Passed (course s g marks) back a b answer first second after
crossed s g marks back t = record { answer-is = t.moved.answer-is; second_is = t.moved.second_is; marks-are = t.moved.marks-are; kept = t.kept }

module _ (steps : ℕ) (s : FlumeSides) (g : FlumeSettings) (start : Lent) (marks₀ : List ℕ) (k : ℕ) where
  pub went : {count : ℕ} {answer : Answer} {first second : Lent} {after : List ℕ} → Ended (course s g marks₀) steps start count answer first second after
      → FlumeWent steps s g start marks₀ count answer first second after
  unfolding open-outcome
  went e = record { count-is = e.count-is; answer-is = e.answer-is; first-is = e.first-is; second_is = e.second_is; marks-are = e.marks-are }

  pub going-alike : (back : Bool) (a b : Lent) (marks : List ℕ) → Going steps s g start marks₀ k back a b marks → Alike (here back a b) (there back a b)
  going-alike back a b marks i = Courses.going-alike (course s g marks₀) back i

  pub going-resuming : (back : Bool) (a b : Lent) (marks : List ℕ) → Going steps s g start marks₀ k back a b marks → Dry s back a b → FlumeResuming s g (here back a b) (there back a b) marks
  going-resuming back a b marks i d = record { entered = record { ready = i.ready; second = other back i; marks-room = i.marked }; dried = d }
    where
      other : (back : Bool) {a b : Lent} → Going steps s g start marks₀ k back a b marks → FlumeSized (flume_cells s) (there back a b)
      other true j = j.first
      other false j = j.second

  -- after a turn the next one writes the set that this one read
  pub going-dry : (back : Bool) (a b first second : Lent) (marks after : List ℕ) (answer : Answer) → Going steps s g start marks₀ k back a b marks
      → FlumeCrossed s g back a b answer first second after → Dry s (not back) first second
  going-dry back a b first second marks after answer i t = kept-dry s g back a b first second i.ready t.kept

  module _ (h : k < steps) where
    pub going_on : (back : Bool) (a b first second : Lent) (marks after : List ℕ) (answer : Answer) → answer ≡ Done → Going steps s g start marks₀ k back a b marks
        → FlumeCrossed s g back a b answer first second after → Going steps s g start marks₀ (k + 1) (not back) first second after
    going_on back a b first second marks after answer e i t = Courses.going_on (course s g marks₀) h back e i (crossed s g marks₀ back t)

    pub going-stops : (back : Bool) (a b first second : Lent) (marks after : List ℕ) (answer : Answer) (refusal : Refusal) → answer ≡ Err refusal → Going steps s g start marks₀ k back a b marks
        → FlumeCrossed s g back a b answer first second after → FlumeWent steps s g start marks₀ k (Err refusal) first second after
    going-stops back a b first second marks after answer refusal q i t = went (Courses.going-stops (course s g marks₀) h back q i (crossed s g marks₀ back t))

  pub going-ends : (back : Bool) (a b first second : Lent) (marks after : List ℕ) → steps ≤ k → Going steps s g start marks₀ k back a b marks
      → Evened back a b first second → after ≡ replicate (length marks) 0 → FlumeWent steps s g start marks₀ steps Done first second after
  going-ends back a b first second marks after h i t e =
      let made : k ≡ steps = omega (arith, h, i.most) in
      subst (λ (n : ℕ). FlumeWent steps s g start marks₀ n Done first second after) made (went (Courses.going-ends (course s g marks₀) back h i t e))
