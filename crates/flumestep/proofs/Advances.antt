-- From what pass 0, pass 1 and the end of a flume's step leave to what tests 7 and 8 answer and the step leaves; and of a set of which nothing is known, what
-- its first step asks. Assumes nothing.
use mathlib.Core.Path.{◌≡◌, sym, ap, ◌∙◌, subst}
use mathlib.Core.Bool.{cond, false≢true}
use mathlib.Core.List.{List}
use Prim.Native.Nat.{ℕ, ◌<◌}
use lib.IntN.{ℤ}
use lib.ListN.{length, get_or, replicate, get_or-replicate, length-replicate}
use Rattle.whole.specs.Fold.{tab, first}
use Rattle.lattice.specs.declared.Settings.{Settings}
use Rattle.grid.specs.Answer.{Answer}
use Rattle.grid.specs.Answer.{Done}
use Rattle.grid.specs.State.{Lent, lent, Scene, liquid}
use Rattle.grid.specs.Step.{unsteady}
use Rattle.grid.specs.Outcome.{accepted}
use Rattle.grid.specs.inner.Halfway.{Alike}
use Rattle.grid.specs.inner.Passes.{opened_by}
use Rattle.passes.specs.declared.passing.Found.{Found}
use Rattle.std.specs.Prelude.{Result, Ok, Err}
use Rattle.passes.specs.inner.Flowed.{MovedTo}
use Rattle.step.proofs.Finishes.{cleared}
use Rattle.flume.specs.declared.FlumeSides.{FlumeSides}
use Rattle.flume.specs.declared.FlumeSettings.{FlumeSettings}
use Rattle.flume.specs.Flume.{flume_cells, level_settings}
use Rattle.flume.specs.inner.Offsets.{flume_low, flume_offset}
use Rattle.flume.specs.Outcome.{flume_next}
use Rattle.nine.specs.inner.Cells.{part_of9}
use Rattle.flumegrid.specs.inner.Ready.{FlumeSized, FlumeEntered, FlumeDried, FlumeResuming}
use Rattle.flumepasses.specs.inner.Flowed.{FlumeFlowable, FlumeWent, stopped, through, FlumeFlowed}
use Rattle.flumefinish.specs.inner.Finished.{FlumeFinishing, FlumeFinished}
use Rattle.flumefinish.proofs.Finishes.{moved-carried, stopped-answer, flowable, next-lengths}
use Rattle.flumestep.specs.inner.Advanced.{FlumeTried, FlumeAdvanced}
use Rattle.grid.specs.declared.refusals.Refusal.TheVariants.{BadFlow}
use Rattle.grid.specs.declared.refusals.Refusal.{Refusal}

-- ---- two sets of the right lengths are alike
pub alike-sized : {n : ℕ} {a b : Lent} → FlumeSized n a → FlumeSized n b → Alike a b
alike-sized x y = record {
  flags = y.flags ∙ sym x.flags;
  parts = y.parts ∙ sym x.parts;
  masses = y.masses ∙ sym x.masses;
  fills = y.fills ∙ sym x.fills;
  carry = y.carry ∙ sym x.carry;
}

-- what pass 1 answered
went-stopped : {T : Scene} {n c : ℕ} {parts masses : List ℤ} {marks : List ℕ} → FlumeWent T n (Err c) parts masses marks → (c < n) × (first n (unsteady T) ≡ c)
went-stopped (stopped h f) = (h, f)

went-through : {T : Scene} {n : ℕ} {found : Found} {parts masses : List ℤ} {marks : List ℕ} → FlumeWent T n (Ok found) parts masses marks
    → MovedTo T n (part_of9 parts) masses marks found.fair found.calm
went-through (through m) = m

module _ {s : FlumeSides} {g : FlumeSettings} {a : Lent} where
  -- of a set whose flags are all 1 nothing is asked
  pub soiled : {b : Lent} {marks flags : List ℕ} → flags ≡ replicate (length b.flags) 1 → FlumeEntered s g a b marks
      → FlumeResuming s g a (lent flags b.parts b.masses b.fills b.carry) marks
  soiled {b} {marks} {flags} e f = record {
    entered = record {
      ready = f.ready;
      second = record { flags = ap length e ∙ length-replicate (length b.flags) 1 ∙ f.second.flags; parts = f.second.parts; masses = f.second.masses; fills = f.second.fills; carry = f.second.carry };
      marks-room = f.marks-room;
    };
    dried = λ c k i j l. absurd (false≢true (sym l ∙ ap liquid (ap (λ (x : List ℕ). get_or x c 3) e ∙ get_or-replicate (length b.flags) c 1 3 (subst (λ (n : ℕ). c < n) (sym f.second.flags) i))));
  }

  -- resumed
  module _ {b : Lent} {marks : List ℕ} (f : FlumeEntered s g a b marks) {h : Settings} (eh : h ≡ level_settings g) where
    pub flowing : {opened : List ℕ} → opened ≡ tab (length a.flags) (opened_by a.flags marks (tab 19 (flume_offset s)) (flume_low s))
        → FlumeDried s b.flags b.parts → FlumeFlowable s h a.flags a.parts a.masses a.fills b.flags b.parts b.masses opened
    flowing {opened} e d =
        subst (λ (k : Settings). FlumeFlowable s k a.flags a.parts a.masses a.fills b.flags b.parts b.masses opened) (sym eh)
        (flowable s g a f.ready marks f.second.flags d f.second.parts f.second.masses e)

    module _ {parts2 masses2 : List ℤ} {marks2 : List ℕ} where
      levelled : {o : Result Found ℕ} → FlumeFlowed s h a.flags a.parts a.masses a.fills o parts2 masses2 marks2 → FlumeFlowed s (level_settings g) a.flags a.parts a.masses a.fills o parts2 masses2 marks2
      levelled {o} v = subst (λ (k : Settings). FlumeFlowed s k a.flags a.parts a.masses a.fills o parts2 masses2 marks2) eh v

      flowed-sized : {o : Result Found ℕ} → FlumeFlowed s (level_settings g) a.flags a.parts a.masses a.fills o parts2 masses2 marks2 → FlumeSized (flume_cells s) (lent b.flags parts2 masses2 b.fills b.carry)
      flowed-sized w = record { flags = f.second.flags; parts = w.parts-kept; masses = w.masses-kept; fills = f.second.fills; carry = f.second.carry }

      pub stopped-tried : {c : ℕ} → FlumeFlowed s h a.flags a.parts a.masses a.fills (Err c) parts2 masses2 marks2 → FlumeTried s g a (Err (BadFlow c)) (lent b.flags parts2 masses2 b.fills b.carry) marks2
      stopped-tried v =
          let w = levelled v in
          let k = went-stopped w.went in
          record {
            answer-is = stopped-answer s g a f.ready k.0 k.1;
            sized = flowed-sized w;
            marks-kept = w.marks-kept;
            second_is = λ k. absurd (false≢true (ap accepted k));
            marks-are = λ k. absurd (false≢true (ap accepted k));
          }

      pub finishing : {found : Found} → FlumeFlowed s h a.flags a.parts a.masses a.fills (Ok found) parts2 masses2 marks2 → FlumeFinishing s g a (lent b.flags parts2 masses2 b.fills b.carry) marks2 found.fair found.calm
      finishing v = let w = levelled v in record { ready = f.ready; moved = moved-carried s g a (went-through w.went); second = flowed-sized w }

  pub tried-finished : {answer : Answer} {second : Lent} {after : List ℕ} → FlumeFinished s g a answer second after → FlumeTried s g a answer second after
  tried-finished f = record {
    answer-is = f.answer-is;
    sized = next-lengths s g a f.second_is;
    marks-kept = cleared (flume_cells s) f.marks-are;
    second_is = λ e. f.second_is;
    marks-are = λ e. f.marks-are;
  }

  -- stepped
  pub refused-advanced : {refusal : Refusal} {answer : Answer} {between second : Lent} {after marks : List ℕ} → answer ≡ Err refusal → FlumeTried s g a answer between after → second ≡ a
      → marks ≡ replicate (length after) 0 → FlumeAdvanced s g a (Err refusal) second marks
  refused-advanced e t k m = record {
    answer-is = sym e ∙ t.answer-is;
    second_is = k ∙ ap (λ (x : Answer). cond (accepted x) (flume_next s g a) a) (sym e ∙ t.answer-is);
    marks-are = m ∙ ap (λ (n : ℕ). replicate n 0) t.marks-kept;
  }

  pub done-advanced : {answer : Answer} {second : Lent} {after : List ℕ} → answer ≡ Done → FlumeTried s g a answer second after → FlumeAdvanced s g a Done second after
  done-advanced e t = record {
    answer-is = sym e ∙ t.answer-is;
    second_is = t.second_is e ∙ ap (λ (x : Answer). cond (accepted x) (flume_next s g a) a) (sym e ∙ t.answer-is);
    marks-are = t.marks-are e;
  }
