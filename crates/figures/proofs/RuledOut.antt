-- What demand 2 rules out, on case T: a step that always refuses, that copies, or that gives one fixed state does not meet the outcome; nor does a run that
-- copies after the first step or invents a count. Each is computed from the definitions. Assumes nothing.
use mathlib.Core.Path.{◌≡◌, sym, ◌∙◌, subst}
use mathlib.Core.Bool.{Bool, true, false, not}
use lib.Dec.{T, eqb}
use lib.IntN.{pos}
use Rattle.whole.specs.Fold.{open-fold}
use Rattle.lattice.specs.Lattice.{open-lattice}
use Rattle.lattice.specs.Cell.{open-cell}
use Rattle.grid.specs.Grid.{open-grid}
use Rattle.grid.specs.State.{Lent, open-state}
use Rattle.grid.specs.Step.{open_step}
use Rattle.grid.specs.Good.{open-good}
use Rattle.grid.specs.Outcome.{accepted, step_answer, step_second, run_count, run_second, open-outcome}
use Rattle.figures.specs.Cases.{sides, settings, falling, case_t, flagged, marks}
use Rattle.figures.specs.Table.{flat, same_z}

-- sets that differ as one list differ
differ : (x y : Lent) → T (not (same_z (flat x) (flat y))) → T (same_z (flat y) (flat y)) → x ≡ y → ⊥
differ x y t u e = clash (same_z (flat y) (flat y)) u (subst (λ (z : Lent). T (not (same_z (flat z) (flat y)))) e t)
  where
    clash : (b : Bool) → T b → T (not b) → ⊥
    clash true p q = q
    clash false p q = p

-- not a step that always refuses
pub accepts : T (accepted (step_answer sides falling case_t case_t marks))
unfolding open-fold open-lattice open-cell open-grid open-state open_step open-good open-outcome
accepts = tt

-- not one that copies its input
pub moves : step_second sides falling case_t case_t marks ≡ case_t → ⊥
unfolding open-fold open-lattice open-cell open-grid open-state open_step open-good open-outcome
moves = differ (step_second sides falling case_t case_t marks) case_t tt tt

-- not one that gives one fixed state: without gravity case T stays as it is
pub not-fixed : (fixed : Lent) → step_second sides falling case_t case_t marks ≡ fixed → step_second sides (settings (pos 0)) case_t case_t marks ≡ fixed → ⊥
unfolding open-fold open-lattice open-cell open-grid open-state open_step open-good open-outcome
not-fixed fixed e f =
    differ (step_second sides falling case_t case_t marks) (step_second sides (settings (pos 0)) case_t case_t marks) tt tt (e ∙ sym f)

-- not a run that copies after the first step: the second step moves the water on
pub runs_on : run_second 2 sides falling case_t case_t marks ≡ run_second 1 sides falling case_t case_t marks → ⊥
unfolding open-fold open-lattice open-cell open-grid open-state open_step open-good open-outcome
runs_on = differ (run_second 2 sides falling case_t case_t marks) (run_second 1 sides falling case_t case_t marks) tt tt

-- not one that invents a count: two steps asked and made, none of a grid with an unknown flag
pub counts : T (eqb (run_count 2 sides falling case_t case_t marks) 2)
unfolding open-fold open-lattice open-cell open-grid open-state open_step open-good open-outcome
counts = tt

pub counts-none : T (eqb (run_count 2 sides falling (flagged 4) case_t marks) 0)
unfolding open-fold open-lattice open-cell open-grid open-state open_step open-good open-outcome
counts-none = tt
