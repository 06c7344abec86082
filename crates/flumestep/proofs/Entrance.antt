-- The flume's step by what tests 1 to 6 answered: it is the step on the flume's ground. Assumes nothing.
use mathlib.Core.Path.{◌≡◌}
use mathlib.Core.List.{List}
use Prim.Native.Nat.{ℕ}
use Rattle.grid.specs.Answer.{Answer}
use Rattle.grid.specs.Answer.{Done}
use Rattle.grid.specs.State.{Lent}
use Rattle.step.proofs.Entered.{SteppedOn, refused-on, stepped-on}
use Rattle.flume.specs.declared.FlumeSides.{FlumeSides}
use Rattle.flume.specs.declared.FlumeSettings.{FlumeSettings}
use Rattle.flume.specs.Flume.{level_settings, flume_ground}
use Rattle.flume.specs.Outcome.{flume_entry, open-outcome}
use Rattle.flume.specs.Promise.{FlumeStepped}
use Rattle.flumestep.specs.inner.Advanced.{FlumeAdvanced}
use Rattle.std.specs.Prelude.{Err}
use Rattle.grid.specs.declared.refusals.Refusal.{Refusal}

module _ (s : FlumeSides) (g : FlumeSettings) (a b : Lent) (marks : List ℕ) where
  on-ground : {answer : Answer} {second : Lent} {after : List ℕ} → SteppedOn (flume_ground s) (level_settings g) a b marks answer second after
      → FlumeStepped s g a b marks answer second after
  unfolding open-outcome
  on-ground w = record { answer-is = w.answer-is; second_is = w.second_is; marks-are = w.marks-are }

  -- one of them refuses
  pub refused : {refusal : Refusal} → Err refusal ≡ flume_entry s g a b marks Done → FlumeStepped s g a b marks (Err refusal) b marks
  unfolding open-outcome
  refused e = on-ground (refused-on (flume_ground s) (level_settings g) a b marks e)

  -- all pass
  pub stepped : {answer : Answer} {second : Lent} {after : List ℕ} → flume_entry s g a b marks Done ≡ Done → FlumeAdvanced s g a answer second after
      → FlumeStepped s g a b marks answer second after
  unfolding open-outcome
  stepped e d = on-ground (stepped-on (flume_ground s) (level_settings g) a b marks e d.answer-is d.second_is d.marks-are)
