-- What demand 2 rules out, on case F: a flume's step that always refuses, that copies, or that gives one fixed state does not meet the outcome; nor does a
-- run that copies after the first step or invents a count. Each is computed from the definitions. Assumes nothing.
use mathlib.Core.Path.{◌≡◌, sym, ◌∙◌, subst}
use mathlib.Core.Bool.{Bool, true, false, not}
use lib.Dec.{T, eqb}
use Rattle.whole.specs.Fold.{open-fold}
use Rattle.lattice.specs.Lattice.{open-lattice}
use Rattle.lattice.specs.Cell.{open-cell}
use Rattle.lattice.specs.Body.{open-body}
use Rattle.grid.specs.Grid.{open-grid}
use Rattle.grid.specs.State.{Lent, open-state}
use Rattle.grid.specs.Step.{open_step}
use Rattle.grid.specs.Good.{open-good}
use Rattle.grid.specs.Outcome as grid
use Rattle.grid.specs.Outcome.{accepted}
use Rattle.flume.specs.Flume.{open-flume}
use Rattle.flume.specs.Outcome.{flume_step, flume_second, flume_run_count, flume_run_second, open-outcome}
use Rattle.flume.specs.Cases.{square, falling, calm, case_f, flagged, marks}
use Rattle.flume.specs.Table.{flat, same_z}

-- sets that differ as one list differ
differ : (x y : Lent) → T (not (same_z (flat x) (flat y))) → T (same_z (flat y) (flat y)) → x ≡ y → ⊥
differ x y t u e = clash (same_z (flat y) (flat y)) u (subst (λ (z : Lent). T (not (same_z (flat z) (flat y)))) e t)
  where
    clash : (b : Bool) → T b → T (not b) → ⊥
    clash true p q = q
    clash false p q = p

-- not a step that always refuses
pub accepts : T (accepted (flume_step (square 3) falling case_f case_f marks))
unfolding open-fold open-lattice open-cell open-body open-grid open-state open_step open-good grid.open-outcome open-flume open-outcome
accepts = tt

-- not one that copies its input
pub moves : flume_second (square 3) falling case_f case_f marks ≡ case_f → ⊥
unfolding open-fold open-lattice open-cell open-body open-grid open-state open_step open-good grid.open-outcome open-flume open-outcome
moves = differ (flume_second (square 3) falling case_f case_f marks) case_f tt tt

-- not one that gives one fixed state: without gravity case F stays as it is
pub not-fixed : (fixed : Lent) → flume_second (square 3) falling case_f case_f marks ≡ fixed → flume_second (square 3) calm case_f case_f marks ≡ fixed → ⊥
unfolding open-fold open-lattice open-cell open-body open-grid open-state open_step open-good grid.open-outcome open-flume open-outcome
not-fixed fixed e f =
    differ (flume_second (square 3) falling case_f case_f marks) (flume_second (square 3) calm case_f case_f marks) tt tt (e ∙ sym f)

-- not a run that copies after the first step: the second step moves the water on
pub runs_on : flume_run_second 2 (square 3) falling case_f case_f marks ≡ flume_run_second 1 (square 3) falling case_f case_f marks → ⊥
unfolding open-fold open-lattice open-cell open-body open-grid open-state open_step open-good grid.open-outcome open-flume open-outcome
runs_on = differ (flume_run_second 2 (square 3) falling case_f case_f marks) (flume_run_second 1 (square 3) falling case_f case_f marks) tt tt

-- not one that invents a count: two steps asked and made, none of a flume with an unknown flag
pub counts : T (eqb (flume_run_count 2 (square 3) falling case_f case_f marks) 2)
unfolding open-fold open-lattice open-cell open-body open-grid open-state open_step open-good grid.open-outcome open-flume open-outcome
counts = tt

pub counts-none : T (eqb (flume_run_count 2 (square 3) falling (flagged 4) case_f marks) 0)
unfolding open-fold open-lattice open-cell open-body open-grid open-state open_step open-good grid.open-outcome open-flume open-outcome
counts-none = tt
