-- What the run leaves is the outcome's definition: not admitted, and after the base's run of the head with poured and taken put beside the carry and both
-- indexes made. Assumes nothing.
use mathlib.Core.Path.{◌≡◌, sym, ap, ◌∙◌, subst}
use mathlib.Core.Bool.{Bool, cond}
use mathlib.Core.List.{List, [], ◌∷◌}
use Prim.Native.Nat.{ℕ, ◌≤◌, ◌<◌}
use native.Mathlib.Omega.{arith}
use lib.Dec.{leb}
use lib.IntN.{ℤ, pos}
use lib.ListN.{length, get_or, take, replicate}
use borrow.Author.Tests.{le-leb, lt-leb}
use Rattle.whole.specs.laws.Bools.{cond_no}
use Rattle.lattice.specs.declared.Settings.{Settings}
use Rattle.grid.specs.declared.Sides.{Sides}
use Rattle.grid.specs.Answer.{Answer}
use Rattle.grid.specs.Answer.{Done}
use Rattle.grid.specs.Grid.{cells_of}
use Rattle.grid.specs.State.{Lent, lent}
use Rattle.grid.specs.Outcome.{accepted, or_refuse, ran}
use Rattle.grid.specs.inner.Halfway.{Stepping}
use Rattle.grid.proofs.Accepted.{passed}
use Rattle.run.specs.inner.Turns.{Went}
use Rattle.pumps.specs.Three.{head_of}
use Rattle.index.specs.Index.{Index, index_of}
use Rattle.index.specs.Held.{Held, held}
use Rattle.calls.specs.Outcome.{kept, entry_answer}
use Rattle.calls.specs.inner.Totals.{carried_with}
use Rattle.calls.proofs.Outcomes.{may-alone, made_held}
use Rattle.runs.specs.Outcome.{run_entry, run_count, run_answer, run_first, run_second, run_marks}
use Rattle.runs.specs.Promise.{RanTo}
use Rattle.grid.specs.declared.refusals.Refusal.TheVariants.{BadSteps}
use Rattle.std.specs.Prelude.{Err}
use Rattle.grid.specs.declared.refusals.Refusal.{Refusal}

-- ---- the first carry alone is a copy of the slice's first number
head-one : (l : List ℤ) → length l ≡ 3 → {z : ℤ} → z ≡ get_or l 0 (pos 0) → take 1 l ≡ (z ∷ [])
head-one [] e p = absurd (omega arith)
head-one (x ∷ l) e p = ap (λ (y : ℤ). y ∷ []) (sym p)

pub may-both : {s : Sides} {g : Settings} (a b : Lent) {marks : List ℕ} {z : ℤ} {l : List ℤ} → Stepping s g (head_of a) (head_of b) marks → length a.carry ≡ 3 → z ≡ get_or a.carry 0 (pos 0)
    → length l ≡ 1 → Stepping s g (lent a.flags a.parts a.masses a.fills (z ∷ [])) (lent b.flags b.parts b.masses b.fills l) marks
may-both {s} {g} a b {marks} {l = l} m e p q =
    subst (λ (k : List ℤ). Stepping s g (lent a.flags a.parts a.masses a.fills k) (lent b.flags b.parts b.masses b.fills l) marks) (head-one a.carry e p) (may-alone m q)

pub went-alone : {steps : ℕ} {s : Sides} {g : Settings} (a : Lent) {marks : List ℕ} {count : ℕ} {answer : Answer} {one two : Lent} {after : List ℕ} {z : ℤ} → length a.carry ≡ 3
    → z ≡ get_or a.carry 0 (pos 0) → Went steps s g (lent a.flags a.parts a.masses a.fills (z ∷ [])) marks count answer one two after → Went steps s g (head_of a) marks count answer one two after
went-alone {steps} {s} {g} a {marks} {count} {answer} {one} {two} {after} e p =
    subst (λ (k : List ℤ). Went steps s g (lent a.flags a.parts a.masses a.fills k) marks count answer one two after) (sym (head-one a.carry e p))

-- ---- the outcome
module _ (s : Sides) (g : Settings) (a b : Held) (marks : List ℕ) (steps : ℕ) where
  abbrev reached : Held
  reached = kept s a (ran s g marks steps (head_of a.set)).reached

  pub refuses-steps : 1000 < steps → Err BadSteps ≡ run_entry steps s g a b marks
  unfolding run_entry
  refuses-steps h = ap (λ (t : Bool). or_refuse t BadSteps (entry_answer s g a b marks Done)) (sym (lt-leb steps 1000 h))

  pub then-entered : steps ≤ 1000 → entry_answer s g a b marks Done ≡ run_entry steps s g a b marks
  unfolding run_entry
  then-entered h = ap (λ (t : Bool). or_refuse t BadSteps (entry_answer s g a b marks Done)) (sym (le-leb steps 1000 h))

  pub entry-passed : run_entry steps s g a b marks ≡ Done → entry_answer s g a b marks Done ≡ Done
  unfolding run_entry
  entry-passed e = (passed (leb steps 1000) BadSteps _ e).1

  pub not-admitted : {refusal : Refusal} → Err refusal ≡ run_entry steps s g a b marks → RanTo steps s g a b marks 0 (Err refusal) a b marks
  unfolding run_count run_answer run_first run_second run_marks
  not-admitted e = record {
    count-is = ap (λ (t : Answer). cond (accepted t) (ran s g marks steps (head_of a.set)).count 0) e;
    answer-is = ap (λ (t : Answer). cond (accepted t) (ran s g marks steps (head_of a.set)).stop t) e;
    first-is = sym (cond_no _ _ (ap accepted (sym e)));
    second_is = sym (cond_no _ _ (ap accepted (sym e)));
    marks-are = sym (cond_no _ _ (ap accepted (sym e)));
  }

  pub admitted-went : (count : ℕ) (answer : Answer) (one two : Lent) (after : List ℕ) {carry carry2 : List ℤ} {x y : Index} → Done ≡ run_entry steps s g a b marks
      → Went steps s g (head_of a.set) marks count answer one two after → length one.flags ≡ cells_of s → length two.flags ≡ cells_of s
      → carry ≡ carried_with (get_or one.carry 0 (pos 0)) a.set.carry → carry2 ≡ carried_with (get_or two.carry 0 (pos 0)) a.set.carry
      → x ≡ index_of (length one.flags) one.flags → y ≡ index_of (length two.flags) two.flags
      → RanTo steps s g a b marks count answer (held (lent one.flags one.parts one.masses one.fills carry) x) (held (lent two.flags two.parts two.masses two.fills carry2) y) after
  unfolding run_count run_answer run_first run_second run_marks
  admitted-went count answer one two after e w l m c d i j = record {
    count-is = w.count-is ∙ ap (λ (t : Answer). cond (accepted t) (ran s g marks steps (head_of a.set)).count 0) e;
    answer-is = w.answer-is ∙ ap (λ (t : Answer). cond (accepted t) (ran s g marks steps (head_of a.set)).stop t) e;
    first-is = made_held s a one l c i ∙ ap (kept s a) w.first-is ∙ ap (λ (t : Answer). cond (accepted t) reached a) e;
    second_is = made_held s a two m d j ∙ ap (kept s a) w.second_is ∙ ap (λ (t : Answer). cond (accepted t) reached b) e;
    marks-are = w.marks-are ∙ ap (λ (t : Answer). cond (accepted t) (replicate (cells_of s) 0) marks) e;
  }
