-- A run on any ground, by what admitted it: the number of steps is asked first, then tests 1 to 6; what they refuse writes nothing, and what they let pass is
-- the course's end. Assumes nothing.
use mathlib.Core.Path.{◌≡◌, refl, ap, ◌∙◌}
use mathlib.Core.Bool.{cond}
use mathlib.Core.List.{List}
use Prim.Native.Nat.{ℕ, ◌≤◌, ◌<◌}
use lib.Dec.{leb}
use lib.ListN.{replicate}
use borrow.Author.Tests.{le-leb, lt-leb}
use Rattle.lattice.specs.declared.Settings.{Settings}
use Rattle.grid.specs.Answer.{Answer}
use Rattle.grid.specs.Answer.{Done}
use Rattle.grid.specs.State.{Lent}
use Rattle.grid.specs.Outcome.{accepted}
use Rattle.grid.specs.Ground.{Ground, entry_on, ran_on, run_entry_on, run_count_on, run_answer_on, run_first_on, run_second_on, run_marks_on}
use Rattle.grid.proofs.Accepted.{passed}
use Rattle.grid.specs.declared.refusals.Refusal.TheVariants.{BadSteps}
use Rattle.std.specs.Prelude.{Err}
use Rattle.grid.specs.declared.refusals.Refusal.{Refusal}

module _ (G : Ground) (steps : ℕ) (g : Settings) (a b : Lent) (marks : List ℕ) where
  -- the run's own outcome
  pub record RanOn (count : ℕ) (answer : Answer) (first second : Lent) (after : List ℕ) : Type 0 where
    pub count-is : count ≡ run_count_on G steps g a b marks
    pub answer-is : answer ≡ run_answer_on G steps g a b marks
    pub first-is : first ≡ run_first_on G steps g a b marks
    pub second_is : second ≡ run_second_on G steps g a b marks
    pub marks-are : after ≡ run_marks_on G steps g a b marks

  pub refuses-on : 1000 < steps → Err BadSteps ≡ run_entry_on G steps g a b marks
  refuses-on h = rw (lt-leb steps 1000 h) refl

  pub entered_on : steps ≤ 1000 → entry_on G g a b marks Done ≡ run_entry_on G steps g a b marks
  entered_on h = rw (le-leb steps 1000 h) refl

  pub admits : run_entry_on G steps g a b marks ≡ Done → entry_on G g a b marks Done ≡ Done
  admits e = (passed (leb steps 1000) BadSteps _ e).1

  pub not-admitted-on : {refusal : Refusal} → Err refusal ≡ run_entry_on G steps g a b marks → RanOn 0 (Err refusal) a b marks
  not-admitted-on e = record {
    count-is = ap (λ (t : Answer). cond (accepted t) (ran_on G g marks steps a).count 0) e;
    answer-is = ap (λ (t : Answer). cond (accepted t) (ran_on G g marks steps a).stop t) e;
    first-is = ap (λ (t : Answer). cond (accepted t) (ran_on G g marks steps a).reached a) e;
    second_is = ap (λ (t : Answer). cond (accepted t) (ran_on G g marks steps a).reached b) e;
    marks-are = ap (λ (t : Answer). cond (accepted t) (replicate G.cells 0) marks) e;
  }

  pub ended-on : {count : ℕ} {answer : Answer} {first second : Lent} {after : List ℕ} → Done ≡ run_entry_on G steps g a b marks → count ≡ (ran_on G g marks steps a).count
      → answer ≡ (ran_on G g marks steps a).stop → first ≡ (ran_on G g marks steps a).reached → second ≡ (ran_on G g marks steps a).reached → after ≡ replicate G.cells 0
      → RanOn count answer first second after
  ended-on e c s f t m = record {
    count-is = c ∙ ap (λ (t : Answer). cond (accepted t) (ran_on G g marks steps a).count 0) e;
    answer-is = s ∙ ap (λ (t : Answer). cond (accepted t) (ran_on G g marks steps a).stop t) e;
    first-is = f ∙ ap (λ (t : Answer). cond (accepted t) (ran_on G g marks steps a).reached a) e;
    second_is = t ∙ ap (λ (t : Answer). cond (accepted t) (ran_on G g marks steps a).reached b) e;
    marks-are = m ∙ ap (λ (t : Answer). cond (accepted t) (replicate G.cells 0) marks) e;
  }
