-- The index stays true: what a step leaves loads again; and with good totals and a true index a step is what it was without them. Assumes nothing.
use mathlib.Core.Path.{◌≡◌, refl, sym, ap, ◌∙◌, subst}
use mathlib.Core.Bool.{Bool, true, false, ◌&&◌, cond}
use mathlib.Core.List.{List}
use Prim.Native.Nat.{ℕ}
use lib.Dec.{eqb}
use lib.ListN.{length, replicate}
use Rattle.lattice.specs.declared.Settings.{Settings}
use Rattle.grid.specs.declared.Sides.{Sides}
use Rattle.grid.specs.Answer.{Answer}
use Rattle.grid.specs.Answer.{Done, late}
use Rattle.grid.specs.Grid.{cells_of}
use Rattle.grid.specs.State.{Lent, lent_of}
use Rattle.grid.specs.Outcome.{accepted, or_refuse, move_answer, scene_of, next_of, by_answer}
use Rattle.grid.specs.Outcome as base
use Rattle.grid.proofs.Accepted.{accepted-done}
use Rattle.pumps.specs.Three.{number_in, head_of, totals_good, three_answer}
use Rattle.pumps.specs.Demands.{Lived}
use Rattle.pumps.specs.Demands as pumps
use Rattle.pumps.proofs.Living.{lived-holds}
use Rattle.index.specs.Index.{Index, index_sized, index_true}
use Rattle.index.specs.Outcome.{load_answer, true_answer}
use Rattle.index.specs.Held.{Held, indexed, Loads}
use Rattle.index.specs.Walked.{AsWalked}
use Rattle.index.proofs.Indexed.{good-loads}
use Rattle.index.proofs.Loaded.{as-walked}
use Rattle.calls.specs.Outcome.{kept, entry_answer, step_answer, step_second, step_marks}
use Rattle.calls.specs.Demands.{StepKeeps, AsBefore}
use Rattle.calls.proofs.Entrance.{goes_on, index_is, as-base, base-entry, then-true, checked-now}
use Rattle.calls.proofs.Outcomes.{move-by}
use Rattle.calls.proofs.Lives.{second_is, step-lives}
use Rattle.grid.specs.declared.refusals.Refusal.TheVariants.{BadIndex, BadState}
use Rattle.std.specs.Prelude.{Ok, Err}

-- a set that came by steps and acts from one that the check accepts
pub lived-loads : (s : Sides) (a b : Lent) → three_answer s a ≡ Done → Lived s a b → Loads s (indexed s b)
lived-loads s a b h r = good-loads s b (lived-holds s a b h r).still-good

-- ---- the step
module _ (s : Sides) (g : Settings) (a b : Held) (marks : List ℕ) where
  abbrev move : Answer
  move = move_answer (scene_of s g (head_of a.set))

  abbrev moved : Held
  moved = kept s a (next_of s g (head_of a.set))

  pub step_keeps : StepKeeps s g a b marks
  unfolding step_second step_answer indexed
  step_keeps e = subst (Loads s) (sym by) (go (accepted move) refl)
    where
      by : step_second s g a b marks ≡ cond (accepted move) moved a
      by = ap (λ (x : Answer). by_answer x moved a b) (goes_on s g a b marks move e) ∙ move-by (scene_of s g (head_of a.set)) moved a b

      go : (t : Bool) → accepted move ≡ t → Loads s (cond t moved a)
      go true p =
          let d : step_answer s g a b marks ≡ Done = goes_on s g a b marks move e ∙ accepted-done _ p in
          subst (λ (u : Lent). Loads s (indexed s u)) (ap (λ (h : Held). h.set) (second_is s a.set g a b marks d))
          (lived-loads s a.set (step_second s g a b marks).set (checked-now s g a b marks e) (step-lives s a.set g a b marks d pumps.start))
      go false p = subst (λ (x : Index). load_answer s a.set x ≡ Done) (sym (index_is s g a b marks e)) (good-loads s a.set (checked-now s g a b marks e))

  -- so both questions go on answering as a walk of its flags
  pub step-walked : entry_answer s g a b marks Done ≡ Done → AsWalked s (step_second s g a b marks).set (step_second s g a b marks).index
  step-walked e = as-walked s (step_second s g a b marks).set (step_second s g a b marks).index (step_keeps e)

  pub as_before : ((eqb (length a.set.carry) 3 && eqb (length b.set.carry) 3) && (index_sized (cells_of s) a.index && index_sized (cells_of s) b.index)) ≡ true
      → totals_good (number_in a.set 1) (number_in a.set 2) ≡ true → index_true (cells_of s) a.set.flags a.index ≡ true → AsBefore s g a b marks
  unfolding step_answer step_second step_marks base.step_answer base.step_second base.step_marks indexed true_answer next_of lent_of
  as_before l h t = record {
    answer = same;
    second = head-of (step_answer s g a b marks) ∙ ap (λ (x : Answer). by_answer x (next_of s g (head_of a.set)) (head_of a.set) (head_of b.set)) same;
    marks-after = ap (λ (x : Answer). by_answer x (replicate (cells_of s) 0) (replicate (cells_of s) 0) marks) same;
  }
    where
      last : or_refuse (totals_good (number_in a.set 1) (number_in a.set 2)) (BadState (cells_of s)) (then-true s g a b marks move) ≡ move
      last = ap (λ (u : Bool). or_refuse u (BadState (cells_of s)) (then-true s g a b marks move)) h ∙ ap (λ (u : Bool). or_refuse u BadIndex move) t

      same : step_answer s g a b marks ≡ base.step_answer s g (head_of a.set) (head_of b.set) marks
      same = sym (as-base s g a b marks l move) ∙ ap (base-entry s g a b marks) last

      head-of : (x : Answer) → head_of (by_answer x moved a b).set ≡ by_answer x (next_of s g (head_of a.set)) (head_of a.set) (head_of b.set)
      head-of (Ok _) = refl
      head-of (Err refusal) = go (late refusal)
        where
          go : (u : Bool) → head_of (cond u a b).set ≡ cond u (head_of a.set) (head_of b.set)
          go true = refl
          go false = refl
