-- The flume's run by what admitted it: it is the run on the flume's ground. Assumes nothing.
use mathlib.Core.Path.{◌≡◌}
use mathlib.Core.List.{List}
use Prim.Native.Nat.{ℕ, ◌≤◌, ◌<◌}
use Rattle.grid.specs.Answer.{Answer}
use Rattle.grid.specs.Answer.{Done}
use Rattle.grid.specs.State.{Lent}
use Rattle.run.proofs.Admitted.{RanOn, refuses-on, entered_on, admits, not-admitted-on, ended-on}
use Rattle.flume.specs.declared.FlumeSides.{FlumeSides}
use Rattle.flume.specs.declared.FlumeSettings.{FlumeSettings}
use Rattle.flume.specs.Flume.{flume_ground, level_settings}
use Rattle.flume.specs.Outcome.{flume_entry, flume_run_entry, open-outcome}
use Rattle.flume.specs.Promise.{FlumeRanTo}
use Rattle.flumegrid.specs.inner.Ready.{FlumeEntered}
use Rattle.flumegrid.proofs.Entrance.{enters}
use Rattle.flumeturns.specs.inner.Turns.{FlumeWent}
use Rattle.grid.specs.declared.refusals.Refusal.TheVariants.{BadSteps}
use Rattle.std.specs.Prelude.{Err}
use Rattle.grid.specs.declared.refusals.Refusal.{Refusal}

module _ (steps : ℕ) (s : FlumeSides) (g : FlumeSettings) (a b : Lent) (marks : List ℕ) where
  -- the flume is one ground
  on-ground : {count : ℕ} {answer : Answer} {first second : Lent} {after : List ℕ} → RanOn (flume_ground s) steps (level_settings g) a b marks count answer first second after
      → FlumeRanTo steps s g a b marks count answer first second after
  unfolding open-outcome
  on-ground w = record { count-is = w.count-is; answer-is = w.answer-is; first-is = w.first-is; second_is = w.second_is; marks-are = w.marks-are }

  pub refuses-steps : 1000 < steps → Err BadSteps ≡ flume_run_entry steps s g a b marks
  unfolding open-outcome
  refuses-steps h = refuses-on (flume_ground s) steps (level_settings g) a b marks h

  pub then-entered : steps ≤ 1000 → flume_entry s g a b marks Done ≡ flume_run_entry steps s g a b marks
  unfolding open-outcome
  then-entered h = entered_on (flume_ground s) steps (level_settings g) a b marks h

  pub run-stepping : flume_run_entry steps s g a b marks ≡ Done → FlumeEntered s g a b marks
  unfolding open-outcome
  run-stepping e = enters s g a b marks (admits (flume_ground s) steps (level_settings g) a b marks e)

  pub not-admitted : (refusal : Refusal) → Err refusal ≡ flume_run_entry steps s g a b marks → FlumeRanTo steps s g a b marks 0 (Err refusal) a b marks
  unfolding open-outcome
  not-admitted refusal e = on-ground (not-admitted-on (flume_ground s) steps (level_settings g) a b marks e)

  pub admitted-went : (count : ℕ) (answer : Answer) (first second : Lent) (after : List ℕ) → Done ≡ flume_run_entry steps s g a b marks
      → FlumeWent steps s g a marks count answer first second after → FlumeRanTo steps s g a b marks count answer first second after
  unfolding open-outcome
  admitted-went count answer first second after e w =
      on-ground (ended-on (flume_ground s) steps (level_settings g) a b marks e w.count-is w.answer-is w.first-is w.second_is w.marks-are)
